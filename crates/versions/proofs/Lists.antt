-- The listing, a version more each turn: what is still to be laid makes the whole. Assumes nothing.
use Rattle.std.specs.Prelude.{Err, Ok, Result}
use Rattle.refusal.specs.declared.Refusal.{Refusal}
use Rattle.refusal.specs.Refusals.{number_of}
use Prim.Native.Nat.{ℕ, suc, ◌+◌, ◌-◌, ◌≤◌, ◌<◌}
use native.Mathlib.Omega.{arith}
use mathlib.Core.Path.{◌≡◌, refl, sym, ap, ◌∙◌}
use mathlib.Core.Bool.{Bool, cond}
use mathlib.Core.List.{List, []}
use lib.ListN.{length}
use borrow.Author.Tests.{eq-eqb, ne_eqb}
use Rattle.text.specs.Pieces.{Laid, end}
use Rattle.text.proofs.Lays.{and_then, laid-size, laid_as}
use Rattle.columns.specs.Rows.{refused_pieces}
use Rattle.settings.specs.declared.allowed.Setting.{Setting}
use Rattle.settings.specs.History.{look_up}
use Rattle.versions.specs.Versions.{version_pieces, found_then, version_lines, list_by, list_pieces}

from_one : (s : List ℕ) (k : ℕ) (l : Result Setting Refusal) → k ≤ 64 → look_up s k ≡ l → version_lines (65 - k) k s ≡ found_then l k (version_lines (65 - (k + 1)) (k + 1) s)
unfolding version_lines
from_one s k l h e =
    let n : 65 - k ≡ suc (65 - (k + 1)) = omega arith in
    let m : suc k ≡ k + 1 = omega arith in
    ap (λ (j : ℕ). version_lines j k s) n
    ∙ ap (λ (j : ℕ). found_then (look_up s k) k (version_lines (65 - (k + 1)) j s)) m
    ∙ ap (λ (x : Result Setting Refusal). found_then x k (version_lines (65 - (k + 1)) (k + 1) s)) e

-- the versions before k are laid
pub record Lines (d s b : List ℕ) (e k : ℕ) : Type 0 where
  pub most : k ≤ 65
  pub size : length b ≡ length d
  pub rest : (f : List ℕ) (r : ℕ) → Laid b e (version_lines (65 - k) k s) f r → Laid d 0 (version_lines 64 1 s) f r

pub lines_start : (d s : List ℕ) → Lines d s d 0 1
lines_start d s = record { most = omega arith; size = refl; rest = λ f r l. l }

pub lines_more : {d s b : List ℕ} {e k : ℕ} (x : Setting) → Lines d s b e k → k ≤ 64 → look_up s k ≡ Ok x
    → {m : List ℕ} {t : ℕ} → Laid b e (version_pieces k x) m t → Lines d s m t (k + 1)
lines_more {d} {s} {b} {e} {k} x p h g {m} {t} v =
    record {
      most = omega arith;
      size = laid-size v ∙ p.size;
      rest = λ f r l. p.rest f r (laid_as (sym (from_one s k (Ok x) h g)) (and_then v l));
    }

pub lines-stop : {d s b : List ℕ} {e k : ℕ} (n : Refusal) → Lines d s b e k → k ≤ 64 → look_up s k ≡ Err n → Laid d 0 (version_lines 64 1 s) b e
lines-stop {d} {s} {b} {e} {k} n p h g = p.rest b e (laid_as (sym (from_one s k (Err n) h g)) end)

pub lines_end : {d s b : List ℕ} {e k : ℕ} → Lines d s b e k → 64 < k → Laid d 0 (version_lines 64 1 s) b e
unfolding version_lines
lines_end {d} {s} {b} {e} {k} p h =
    let z : 65 - k ≡ 0 = omega arith in
    p.rest b e (laid_as (sym (ap (λ (j : ℕ). version_lines j k s) z)) end)

-- the cases of the listing
pub list-lines : (s : List ℕ) (x : Setting) → look_up s 1 ≡ Ok x → version_lines 64 1 s ≡ list_pieces s
unfolding list_by
list-lines s x e = sym (ap (λ (l : Result Setting Refusal). list_by l s) e)

pub list-none : (s : List ℕ) (n : Refusal) → look_up s 1 ≡ Err n → number_of n ≡ 23 → [] ≡ list_pieces s
unfolding list_by
list-none s n e z = sym (ap (λ (l : Result Setting Refusal). list_by l s) e ∙ ap (λ (b : Bool). cond b [] (refused_pieces (number_of n))) (eq-eqb (number_of n) 23 z))

pub list-refused : (s : List ℕ) (n : Refusal) → look_up s 1 ≡ Err n → (number_of n ≡ 23 → ⊥) → refused_pieces (number_of n) ≡ list_pieces s
unfolding list_by
list-refused s n e z = sym (ap (λ (l : Result Setting Refusal). list_by l s) e ∙ ap (λ (b : Bool). cond b [] (refused_pieces (number_of n))) (ne_eqb (number_of n) 23 z))
