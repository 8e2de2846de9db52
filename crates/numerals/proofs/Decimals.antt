-- A decimal by the place of its point. Assumes nothing.
use Rattle.std.specs.Prelude.{Float, None, Option, Some}
use Rattle.std.proofs.Common.{◌≡◌, ℕ, ◌+◌, ◌-◌, ◌<◌, ◌≤◌, Bool, true, false, not, ◌&&◌, eqb, leb, List, [], ◌++◌, length, take, drop, sym, refl, ap, ◌∙◌, append-nil, arith, lit≤, length-append, length-drop, drop_of_length-le, length-take-le, take_all, drop-drop, eq-eqb, ne_eqb, le-leb}
use native.Mathlib.Nat.{sub-zero}
use mathlib.Core.Bool.{and-false}
use borrow.Author.Tests.{lt-leb}
use Rattle.words.specs.declared.Byte.TheVariants.{Point}
use Rattle.words.specs.Words.{up_to, from}
use Rattle.words.specs.Found.{Found}
use Rattle.numerals.proofs.Values.{read-both, read-neither}
use Rattle.numerals.specs.Numbers.{word_digits, decimals, all_digits, well_formed, over_ten, unsigned_of}

not-formed : (s : List ℕ) → well_formed s ≡ false → None ≡ unsigned_of s
unfolding unsigned_of
not-formed s e = rw e refl

formed : (s : List ℕ) → well_formed s ≡ true → over_ten (length (decimals s)) (word_digits 10 0 (all_digits s)) ≡ unsigned_of s
unfolding unsigned_of
formed s e = rw e refl

-- the code's own words for the bounds
pub room : (n p : ℕ) → p + (n - p - 1) ≤ 15 → p + (n - (p + 1)) ≤ 15
room n p h = omega arith

pub some : (n p : ℕ) → (n - p - 1 ≡ 0 → ⊥) → n - p ≡ 1 → ⊥
some n p h e = h (omega arith)

module _ (s : List ℕ) (p : ℕ) (f : Found Point s 0 p) where
  pub front : take p s ≡ up_to Point s
  front = rw sub-zero at f.passed

  front_length : length (up_to Point s) ≡ p
  front_length = ap length (sym front) ∙ length-take-le p s f.within

  from-length : length (from Point s) ≡ length s - p
  from-length = ap length (sym f.rest) ∙ length-drop p s

  pub behind : decimals s ≡ drop (p + 1) s
  behind = ap (drop 1) (sym f.rest) ∙ drop-drop 1 p s

  pub places-length : length (decimals s) ≡ length s - (p + 1)
  places-length = ap length behind ∙ length-drop (p + 1) s

  all-length : length (all_digits s) ≡ p + (length s - (p + 1))
  all-length = length-append (up_to Point s) (decimals s) ∙ omega (arith, front_length, places-length)

  pub none_before : p ≡ 0 → None ≡ unsigned_of s
  unfolding well_formed
  none_before e = not-formed s (rw (eq-eqb (length (up_to Point s)) 0 (front_length ∙ e)) refl)

  pub none-behind : length s - p ≡ 1 → None ≡ unsigned_of s
  unfolding well_formed
  none-behind e = not-formed s (rw (eq-eqb (length (from Point s)) 1 (from-length ∙ e)) (and-false (not (eqb (length (up_to Point s)) 0))))

  pub too_many : 15 < p + (length s - (p + 1)) → None ≡ unsigned_of s
  unfolding well_formed
  too_many h =
      let l : leb (length (all_digits s)) 15 ≡ false = lt-leb (length (all_digits s)) 15 (rw all-length h) in
      let g : well_formed s ≡ false =
      rw l (ap (λ (b : Bool). not (eqb (length (up_to Point s)) 0) && b) (and-false (not (eqb (length (from Point s)) 1)))
      ∙ and-false (not (eqb (length (up_to Point s)) 0))) in
      not-formed s g

  pub good : (p ≡ 0 → ⊥) → (length s - p ≡ 1 → ⊥) → p + (length s - (p + 1)) ≤ 15
      → over_ten (length s - (p + 1)) (word_digits 10 0 (all_digits s)) ≡ unsigned_of s
  unfolding well_formed
  good a b h =
      let x = ne_eqb (length (up_to Point s)) 0 (λ e. a (sym front_length ∙ e)) in
      let y = ne_eqb (length (from Point s)) 1 (λ e. b (sym from-length ∙ e)) in
      let z = le-leb (length (all_digits s)) 15 (rw all-length h) in
      ap (λ (k : ℕ). over_ten k (word_digits 10 0 (all_digits s))) (sym places-length) ∙ formed s (rw (x, y, z) refl)

  -- no point
  pub whole : length s ≤ p → all_digits s ≡ s
  whole h =
      let l : length s ≤ p + 1 = omega arith in
      let z : decimals s ≡ [] = behind ∙ drop_of_length-le s l in
      ap (λ (x : List ℕ). up_to Point s ++ x) z ∙ append-nil (up_to Point s) ∙ sym front ∙ take_all p s h

  pub no-point : (w : Option ℕ) (r : Option Float) → (p ≡ 0 → ⊥) → length s ≤ p → p ≤ 15 → w ≡ word_digits 10 0 s → r ≡ over_ten 0 w → r ≡ unsigned_of s
  no-point w r a h l e g =
      let z : length s - (p + 1) ≡ 0 = omega arith in
      let one : length s - p ≡ 1 → ⊥ = λ x. omega arith in
      g ∙ ap (over_ten 0) (e ∙ ap (word_digits 10 0) (sym (whole h))) ∙ ap (λ (k : ℕ). over_ten k (word_digits 10 0 (all_digits s))) (sym z)
      ∙ good a one (omega arith)

  pub both-sides : (n : ℕ) (w : Option ℕ) (r : Option Float) → (p ≡ 0 → ⊥) → (length s - p ≡ 1 → ⊥) → p + (length s - (p + 1)) ≤ 15
      → word_digits 10 0 (take p s) ≡ Some n → w ≡ word_digits 10 n (drop (p + 1) s) → r ≡ over_ten (length s - (p + 1)) w → r ≡ unsigned_of s
  both-sides n w r a b l h e g =
      let t : word_digits 10 0 (all_digits s) ≡ word_digits 10 n (decimals s) =
      read-both 10 0 (up_to Point s) (decimals s) n (ap (word_digits 10 0) (sym front) ∙ h) in
      g ∙ ap (over_ten (length s - (p + 1))) (e ∙ ap (word_digits 10 n) (sym behind) ∙ sym t) ∙ good a b l

  pub bad-front : (p ≡ 0 → ⊥) → (length s - p ≡ 1 → ⊥) → p + (length s - (p + 1)) ≤ 15 → word_digits 10 0 (take p s) ≡ None → None ≡ unsigned_of s
  bad-front a b l h =
      let t : word_digits 10 0 (all_digits s) ≡ None =
      read-neither 10 0 (up_to Point s) (decimals s) (lit≤ tt) (ap (word_digits 10 0) (sym front) ∙ h) in
      ap (over_ten (length s - (p + 1))) (sym t) ∙ good a b l
