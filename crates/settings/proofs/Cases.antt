-- The cases of storing and of looking up. Assumes nothing.
use Rattle.std.specs.Prelude.{Err, Ok, Result, None, Option, Some}
use Rattle.refusal.specs.declared.Refusal.{Refusal}
use Prim.Native.Nat.{ℕ, ◌≤◌, ◌<◌}
use mathlib.Core.Path.{◌≡◌, sym, ap, ◌∙◌}
use mathlib.Core.List.{List}
use mathlib.Core.Bool.{Bool, true, false, cond, not, ◌&&◌}
use lib.ListN.{length, take}
use lib.Dec.{leb}
use borrow.Author.Tests.{le-leb, lt-leb, lt-ltb, le-ltb}
use Rattle.settings.specs.declared.allowed.Setting.{Setting}
use Rattle.settings.specs.Allowed.{refusal_of}
use Rattle.settings.specs.Layout.{versions_in, are_whole}
use Rattle.settings.specs.History.{version_in, look_up, next_of, unless_refused, stored_of, copied_by, back_of}

module _ (d : List ℕ) (used : ℕ) (x : Setting) where
  abbrev behind : Result (ℕ × ℕ) Refusal
  behind = unless_refused (refusal_of x) (next_of d used)

  pub outside : length d < used → Err Refusal.NoSettings ≡ stored_of d used x
  outside h = sym (ap (λ (b : Bool). cond (not (b && are_whole (take used d))) (Err Refusal.NoSettings) behind) (lt-leb used (length d) h))

  inside : {b : Bool} → used ≤ length d → are_whole (take used d) ≡ b → stored_of d used x ≡ cond (not b) (Err Refusal.NoSettings) behind
  inside h w =
      ap (λ (b : Bool). cond (not (b && are_whole (take used d))) (Err Refusal.NoSettings) behind) (le-leb used (length d) h)
      ∙ ap (λ (b : Bool). cond (not b) (Err Refusal.NoSettings) behind) w

  pub not-whole : used ≤ length d → are_whole (take used d) ≡ false → Err Refusal.NoSettings ≡ stored_of d used x
  not-whole h w = sym (inside h w)

  pub not-allowed : used ≤ length d → are_whole (take used d) ≡ true → (n : Refusal) → refusal_of x ≡ Some n → Err n ≡ stored_of d used x
  not-allowed h w n e = sym (inside h w ∙ ap (λ (o : Option Refusal). unless_refused o (next_of d used)) e)

  pub stored : used ≤ length d → are_whole (take used d) ≡ true → refusal_of x ≡ None → next_of d used ≡ stored_of d used x
  stored h w e = sym (inside h w ∙ ap (λ (o : Option Refusal). unless_refused o (next_of d used)) e)

module _ (s : List ℕ) (k : ℕ) where
  pub bad : are_whole s ≡ false → Err Refusal.NoSettings ≡ look_up s k
  bad w = sym (ap (λ (b : Bool). cond (not b) (Err Refusal.NoSettings) (cond (leb 1 k && leb k (versions_in (length s))) (Ok (version_in s k)) (Err Refusal.NoVersion))) w)

  good : {b : Bool} → are_whole s ≡ true → leb 1 k && leb k (versions_in (length s)) ≡ b → look_up s k ≡ cond b (Ok (version_in s k)) (Err Refusal.NoVersion)
  good w e =
      ap (λ (b : Bool). cond (not b) (Err Refusal.NoSettings) (cond (leb 1 k && leb k (versions_in (length s))) (Ok (version_in s k)) (Err Refusal.NoVersion))) w
      ∙ ap (λ (b : Bool). cond b (Ok (version_in s k)) (Err Refusal.NoVersion)) e

  pub none_yet : are_whole s ≡ true → k < 1 → Err Refusal.NoVersion ≡ look_up s k
  none_yet w h = sym (good w (ap (λ (b : Bool). b && leb k (versions_in (length s))) (lt-leb 1 k h)))

  pub no_more : are_whole s ≡ true → 1 ≤ k → versions_in (length s) < k → Err Refusal.NoVersion ≡ look_up s k
  no_more w g h =
      sym (good w (ap (λ (b : Bool). b && leb k (versions_in (length s))) (le-leb 1 k g) ∙ lt-leb k (versions_in (length s)) h))

  pub there : are_whole s ≡ true → 1 ≤ k → k ≤ versions_in (length s) → Ok (version_in s k) ≡ look_up s k
  there w g h =
      sym (good w (ap (λ (b : Bool). b && leb k (versions_in (length s))) (le-leb 1 k g) ∙ le-leb k (versions_in (length s)) h))

module _ (d : List ℕ) (used k : ℕ) where
  pub beyond : length d < used → Err Refusal.NoSettings ≡ back_of d used k
  beyond h = sym (ap (λ (b : Bool). cond b (Err Refusal.NoSettings) (copied_by (look_up (take used d) k) d used)) (lt-ltb (length d) used h))

  within : {l : Result Setting Refusal} → used ≤ length d → look_up (take used d) k ≡ l → back_of d used k ≡ copied_by l d used
  within h e =
      ap (λ (b : Bool). cond b (Err Refusal.NoSettings) (copied_by (look_up (take used d) k) d used)) (le-ltb (length d) used h)
      ∙ ap (λ (l : Result Setting Refusal). copied_by l d used) e

  pub copied : (x : Setting) → used ≤ length d → look_up (take used d) k ≡ Ok x → next_of d used ≡ back_of d used k
  unfolding copied_by
  copied x h e = sym (within h e)

  pub not-copied : (n : Refusal) → used ≤ length d → look_up (take used d) k ≡ Err n → Err n ≡ back_of d used k
  unfolding copied_by
  not-copied n h e = sym (within h e)

-- what is found is the version
same-choice : (b c : Bool) (x y : Setting) → cond (not b) (Err Refusal.NoSettings) (cond c (Ok x) (Err Refusal.NoVersion)) ≡ Ok y → x ≡ y
same-choice false c x y e = let z : ◌≡◌ {A = ℕ} 0 1 = cc in cc
same-choice true false x y e = let z : ◌≡◌ {A = ℕ} 0 1 = cc in cc
same-choice true true x y e = cc

pub found-is : (s : List ℕ) (k : ℕ) (y : Setting) → look_up s k ≡ Ok y → version_in s k ≡ y
found-is s k y e = same-choice (are_whole s) (leb 1 k && leb k (versions_in (length s))) (version_in s k) y e
