-- What storing and going back come to. Assumes nothing.
use Rattle.std.specs.Prelude.{Err, Ok, Result, None, Option, Some}
use Rattle.refusal.specs.declared.Refusal.{Refusal}
use Prim.Native.Nat.{ℕ, ◌+◌, ◌-◌, ◌*◌, ◌≤◌, ◌<◌}
use native.Mathlib.Omega.{arith}
use mathlib.Core.Path.{◌≡◌, refl, sym, ap, ◌∙◌, subst}
use mathlib.Core.Bool.{Bool, true, false, cond, not, ◌&&◌}
use mathlib.Core.List.{List, ◌++◌}
use lib.ListN.{length, take, drop}
use lib.Seq.{length-take-le}
use lib.Dec.{ltb, leb}
use borrow.Author.Tests.{leb-true, leb-false, ltb-false}
use Rattle.facts.proofs.Truth.{and_0, and-1}
use Rattle.text.specs.Text.{Stands}
use Rattle.text.proofs.Stand.{before-place}
use Rattle.settings.specs.declared.allowed.Setting.{Setting}
use Rattle.settings.specs.Allowed.{refusal_of}
use Rattle.settings.specs.Layout.{versions_in, are_whole, version_bytes, Held}
use Rattle.settings.specs.History.{version_in, look_up, next_of, unless_refused, is_used, stored_of, copied_by, back_of, buffer_after}
use Rattle.settings.proofs.Versions.{version-length}
use Rattle.settings.proofs.Cases.{stored}
use Rattle.settings.proofs.Backs.{held_at}
use Rattle.settings.proofs.Wholes.{whole_is, version-allowed, longer-whole, last_found, earlier-same}

-- ---- what an answer has shown

next-by : (c e : Bool) (p q k r : ℕ) → cond {A = Result (ℕ × ℕ) Refusal} c (Err Refusal.NoVersionLeft) (cond e (Err Refusal.NoRoom) (Ok (p, q))) ≡ Ok (k, r)
    → (c ≡ false) × (e ≡ false) × (p ≡ k) × (q ≡ r)
next-by true e p q k r h = let o : ◌≡◌ {A = ℕ} 0 1 = cc in let z : ⊥ = omega arith in absurd z
next-by false true p q k r h = let o : ◌≡◌ {A = ℕ} 0 1 = cc in let z : ⊥ = omega arith in absurd z
next-by false false p q k r h = let e : (p, q) ≡ (k, r) = cc in (refl, refl, ap (λ (z : ℕ × ℕ). z.0) e, ap (λ (z : ℕ × ℕ). z.1) e)

stored-by : (a : Bool) (n : Option Refusal) (t : Result (ℕ × ℕ) Refusal) (k r : ℕ) → cond (not a) (Err Refusal.NoSettings) (unless_refused n t) ≡ Ok (k, r)
    → (a ≡ true) × (n ≡ None) × (t ≡ Ok (k, r))
stored-by false n t k r h = let o : ◌≡◌ {A = ℕ} 0 1 = cc in let z : ⊥ = omega arith in absurd z
stored-by true (Some n) t k r h = let o : ◌≡◌ {A = ℕ} 0 1 = cc in let z : ⊥ = omega arith in absurd z
stored-by true None t k r h = (refl, refl, h)

module _ (d : List ℕ) (used k r : ℕ) where
  -- there was room for one version more
  record Room : Type 0 where
    below : versions_in used < 64
    behind : r ≡ used + 44
    within : r ≤ length d
    next : k ≡ versions_in used + 1

  room_of : next_of d used ≡ Ok (k, r) → Room
  room_of h =
      let n = next-by (leb 64 (versions_in used)) (ltb (length d) (used + 44)) (versions_in used + 1) (used + 44) k r h in
      record {
        below = leb-false 64 (versions_in used) n.0;
        behind = sym n.3;
        within = omega (arith, ltb-false (length d) (used + 44) n.1, n.3);
        next = sym n.2;
      }

  module _ (x : Setting) where
    record Was : Type 0 where
      inside : used ≤ length d
      whole : are_whole (take used d) ≡ true
      allow : refusal_of x ≡ None
      room : Room

    was : stored_of d used x ≡ Ok (k, r) → Was
    was h =
        let a = leb used (length d) in
        let s = stored-by (is_used d used) (refusal_of x) (next_of d used) k r h in
        record {
          inside = leb-true used (length d) (and_0 a (are_whole (take used d)) s.0);
          whole = and-1 a (are_whole (take used d)) s.0;
          allow = s.1;
          room = room_of s.2;
        }

-- the place behind a version that was stored lies within the buffer
pub stored-within : (d : List ℕ) (used : ℕ) (x : Setting) (k r : ℕ) → stored_of d used x ≡ Ok (k, r) → r ≤ length d
stored-within d used x k r h = (was d used k r x h).room.within

-- ---- storing

module _ (d : List ℕ) (used : ℕ) (x : Setting) (k r : ℕ) (held : Held x) (h : stored_of d used x ≡ Ok (k, r)) where
  abbrev w : Was d used k r x
  w = was d used k r x h

  -- the number is one more than the latest, beginning with 1, and the used part is so many versions
  pub next-number : (k ≡ versions_in used + 1) × (used ≡ 44 * versions_in used) × (r ≡ 44 * k) × (k ≤ 64)
  next-number =
      let l = length-take-le used d w.inside in
      let z = (whole_is (take used d) w.whole).size in
      let u : used ≡ 44 * versions_in used = sym l ∙ z ∙ ap (λ (n : ℕ). 44 * versions_in n) l in
      (w.room.next, u, omega (arith, w.room.next, w.room.behind, u), omega (arith, w.room.next, w.room.below))

  size : length (take used d) ≡ used
  size = length-take-le used d w.inside

  -- the used part afterwards
  pub used-after : take r (buffer_after (Ok (k, r)) d used x) ≡ take used d ++ version_bytes (versions_in (length (take used d)) + 1) x
  unfolding buffer_after
  used-after =
      let p : Stands d used (version_bytes k x) (buffer_after (Ok (k, r)) d used x) r =
      record { next = w.room.behind ∙ ap (λ (n : ℕ). used + n) (sym (version-length k x)); within = w.room.within; whole = refl } in
      before-place p ∙ ap (λ (n : ℕ). take used d ++ version_bytes n x) (w.room.next ∙ ap (λ (n : ℕ). versions_in n + 1) (sym size))

  below : versions_in (length (take used d)) < 64
  below = subst (λ (n : ℕ). versions_in n < 64) (sym size) w.room.below

  pub whole-after : are_whole (take r (buffer_after (Ok (k, r)) d used x)) ≡ true
  whole-after = ap are_whole used-after ∙ longer-whole (take used d) x w.whole below held w.allow

  -- what is stored is found again under its number
  pub stored-found : look_up (take r (buffer_after (Ok (k, r)) d used x)) k ≡ Ok x
  stored-found =
      ap (λ (n : ℕ). look_up (take r (buffer_after (Ok (k, r)) d used x)) n) (w.room.next ∙ ap (λ (n : ℕ). versions_in n + 1) (sym size))
      ∙ ap (λ (s : List ℕ). look_up s (versions_in (length (take used d)) + 1)) used-after
      ∙ last_found (take used d) x w.whole below held w.allow

  -- every earlier version is as it was
  pub stored-earlier : (j : ℕ) → j < k → look_up (take r (buffer_after (Ok (k, r)) d used x)) j ≡ look_up (take used d) j
  stored-earlier j g =
      ap (λ (s : List ℕ). look_up s j) used-after
      ∙ earlier-same (take used d) x w.whole below held w.allow j (omega (arith, w.room.next, ap (λ (n : ℕ). versions_in n) size))

-- ---- going back

found_by_lem : (b c : Bool) (x : Setting) (d : List ℕ) (used k r : ℕ)
    → copied_by (cond (not b) (Err Refusal.NoSettings) (cond c (Ok x) (Err Refusal.NoVersion))) d used ≡ Ok (k, r)
    → (b ≡ true) × (c ≡ true) × (next_of d used ≡ Ok (k, r))
unfolding copied_by
found_by_lem false c x d used k r h = let o : ◌≡◌ {A = ℕ} 0 1 = cc in let z : ⊥ = omega arith in absurd z
found_by_lem true false x d used k r h = let o : ◌≡◌ {A = ℕ} 0 1 = cc in let z : ⊥ = omega arith in absurd z
found_by_lem true true x d used k r h = (refl, refl, h)

inside-by : (b : Bool) (t : Result (ℕ × ℕ) Refusal) (k r : ℕ) → cond b (Err Refusal.NoSettings) t ≡ Ok (k, r) → (b ≡ false) × (t ≡ Ok (k, r))
inside-by true t k r h = let o : ◌≡◌ {A = ℕ} 0 1 = cc in let z : ⊥ = omega arith in absurd z
inside-by false t k r h = (refl, h)

module _ (d : List ℕ) (used j k r : ℕ) (h : back_of d used j ≡ Ok (k, r)) where
  abbrev s : List ℕ
  s = take used d

  abbrev x : Setting
  x = version_in s j

  inside : (ltb (length d) used ≡ false) × (copied_by (look_up s j) d used ≡ Ok (k, r))
  inside = inside-by (ltb (length d) used) (copied_by (look_up s j) d used) k r h

  found : (are_whole s ≡ true) × (leb 1 j && leb j (versions_in (length s)) ≡ true) × (next_of d used ≡ Ok (k, r))
  found = found_by_lem (are_whole s) (leb 1 j && leb j (versions_in (length s))) x d used k r inside.1

  one_on : 1 ≤ j
  one_on = leb-true 1 j (and_0 (leb 1 j) (leb j (versions_in (length s))) found.1)

  is-there : j ≤ versions_in (length s)
  is-there = leb-true j (versions_in (length s)) (and-1 (leb 1 j) (leb j (versions_in (length s))) found.1)

  -- going back is storing what is found
  pub back-stores : stored_of d used x ≡ Ok (k, r)
  back-stores =
      sym (stored d used x (ltb-false (length d) used inside.0) found.0 (version-allowed s j found.0 one_on is-there))
      ∙ found.2

  pub looked : look_up s j ≡ Ok x
  looked =
      ap (λ (b : Bool). cond (not b) (Err Refusal.NoSettings) (cond (leb 1 j && leb j (versions_in (length s))) (Ok x) (Err Refusal.NoVersion))) found.0
      ∙ ap (λ (b : Bool). cond b (Ok x) (Err Refusal.NoVersion)) found.1

  -- the copy is found under the next number, and every earlier version, the one copied among them, as it was
  pub back_found : look_up (take r (buffer_after (Ok (k, r)) d used x)) k ≡ look_up s j
  back_found = stored-found d used x k r (held_at (drop (44 * (j - 1)) s)) back-stores ∙ sym looked

  pub back_earlier : (i : ℕ) → i < k → look_up (take r (buffer_after (Ok (k, r)) d used x)) i ≡ look_up s i
  back_earlier i g = stored-earlier d used x k r (held_at (drop (44 * (j - 1)) s)) back-stores i g

  pub back-within : r ≤ length d
  back-within = stored-within d used x k r back-stores
