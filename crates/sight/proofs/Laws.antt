-- The refusal number of the sight line is the first row's that applies; 16 is given exactly where E is over 3,599. Assumes nothing.
use Rattle.std.specs.Prelude.{Ok, Result, Err}
use Rattle.std.proofs.Common.{◌≡◌, ℕ, ◌*◌, ◌<◌, ◌≤◌, Bool, true, false, T, ltb, List, [], ◌∷◌, ℤ, pos, sym, refl, ap, ◌∙◌, subst, mul-one, mul_right_comm, le_of_mul-le-mul_right, arith, lit≤, ltb-false, ltb-true, lt-ltb}
use lib.Ieee.{Float, nan, inf, fin, binary64, up, down, round, of_bits, of_int, le, lt, eq}
use lib.Ieee.Back.{round_whole}
use lib.Ieee.Bits.{is_true}
use lib.Ieee.Exact.{HasValue}
use lib.Ieee.Fits.{down_pos}
use lib.Ieee.Order.{round_mono}
use Rattle.real.specs.F64.{◌≤ᶠ◌, bits}
use Rattle.real.proofs.Bounds.{Within, Signed, round-signed, below-whole, or_cases}
use Rattle.vector.specs.declared.Vector.{Vector}
use Rattle.table.specs.Tests as Tests
use Rattle.table.specs.Tests.{Entry, ◌▷◌, first_failing, all_meet, first_row}
use Rattle.table.proofs.Laws.{first_failing_lem, then, all_met_lem, first_row_lem, met_at}
use Rattle.wheel.specs.Wheel.{direction_of, wheel_of}
use Rattle.sight.specs.declared.Line.{Line}
use Rattle.sight.specs.Sight.{input_tests, radicand_row, sight_line, sight_tests, answered, sight_of, sight_number}

-- ---- the table

answered-number : (t : Result Unit Entry) (a : Vector) (l : Line) → sight_number (answered t a l) ≡ Tests.test_number t
unfolding answered sight_number Tests.test_number
answered-number (Ok tt) a l = refl
answered-number (Err f) a l = refl

-- the rows in the order of the request
abbrev pub sight_order : List ℕ
sight_order = 1 ∷ 3 ∷ 16 ∷ 17 ∷ 18 ∷ []

pub sight-table : (a p : Vector) (e : ℕ) (h v : Vector) → sight_number (sight_of a p e h v) ≡ first_row sight_order (sight_tests a p e h v)
sight-table a p e h v = answered-number (first_failing (sight_tests a p e h v)) a (sight_line a p e h v) ∙ first_row_lem sight_order (sight_tests a p e h v) refl

-- ---- row 16

abbrev most : Float
most = bits 0x40ac_1e00_0000_0000

most-is : round binary64 false 3599 1 ≡ most
unfolding round of_bits
most-is = refl

-- what is at or over a whole number, and at or under a lesser one, is nothing
over-whole : (y : Float) (n : ℕ) (k : ℤ) (a : ℕ) → HasValue y false a 1 → T (le y (fin false n k)) → a * down k ≤ n * up k
unfolding le lt eq
over-whole nan n k a h t = absurd h
over-whole (inf b) n k a h t = absurd h
over-whole (fin true m d) n k a h t = absurd (subst T h.0 tt)
over-whole (fin false m d) n k a h t =
    le_of_mul-le-mul_right
    (subst (λ (z : ℕ). z ≤ n * up k * down d) (ap (λ (z : ℕ). z * down k) (sym (mul-one (m * up d)) ∙ h.1) ∙ mul_right_comm a (down d) (down k)) (or_cases (m * up d * down k) (n * up k * down d) t))
    (down_pos d)

none_between : (x : Float) → Signed x false → Within x 3599 → T (le (round binary64 false 3600 1) x) → ⊥
none_between nan s w t = w
none_between (inf b) s w t = w
none_between (fin true n k) s w t = subst T s tt
none_between (fin false n k) s w t = apart (n * up k) (down k) (down_pos k) w (over-whole (round binary64 false 3600 1) n k 3600 (round_whole binary64 false 3600 (lit≤ tt)) t)
  where
    apart : (x d : ℕ) → 0 < d → x ≤ 3599 * d → 3600 * d ≤ x → ⊥
    apart x d p h k = omega arith

pub wheel-turn : (e : ℕ) → (of_int binary64 (pos e) ≤ᶠ most) ≡ ltb e 3600
unfolding of_int
wheel-turn e = go (ltb e 3600) refl
  where
    x : Float
    x = round binary64 false e 1

    over : 3600 ≤ e → (b : Bool) → (x ≤ᶠ most) ≡ b → b ≡ false
    over h true p =
        absurd (none_between x (round-signed binary64 false e 1)
        (below-whole x most 3599 (round-signed binary64 false e 1) (subst T (sym p) tt) (subst (λ (y : Float). HasValue y false 3599 1) most-is (round_whole binary64 false 3599 (lit≤ tt))))
        (round_mono binary64 3600 1 e 1 (lit≤ tt) (lit≤ tt) (omega arith)))
    over h false p = refl

    go : (b : Bool) → ltb e 3600 ≡ b → (x ≤ᶠ most) ≡ b
    go true p =
        let l : e < 3600 = ltb-true e 3600 p in
        is_true (x ≤ᶠ most) (subst (λ (y : Float). T (x ≤ᶠ y)) most-is (round_mono binary64 e 1 3599 1 (lit≤ tt) (lit≤ tt) (omega arith)))
    go false p = over (ltb-false e 3600 p) (x ≤ᶠ most) refl

-- past the tests the wheel stands in its turn
pub within-turn : (a p : Vector) (e : ℕ) (h v : Vector) → all_meet (input_tests a p e h v) ≡ true → e < 3600
within-turn a p e h v q = ltb-true e 3600 (sym (wheel-turn e) ∙ met_at 22 (input_tests a p e h v) q)

-- ---- the code's way: the tests of the inputs, and then row 18

module _ (a p : Vector) (e : ℕ) (h v : Vector) (t : Result Unit Entry) (told : t ≡ Ok tt ▷ input_tests a p e h v) where
  pub tested : first_failing (sight_tests a p e h v) ≡ t ▷ radicand_row (sight_line a p e h v)
  tested =
      sym (first_failing_lem (sight_tests a p e h v))
      ∙ sym (then (Ok tt) (input_tests a p e h v) (radicand_row (sight_line a p e h v)))
      ∙ ap (λ (x : Result Unit Entry). x ▷ radicand_row (sight_line a p e h v)) (sym told)

  pub wheel_told_lem : t ≡ Ok tt → wheel_of e ≡ Ok (direction_of e)
  unfolding wheel_of
  wheel_told_lem q = rw (lt-ltb e 3600 (within-turn a p e h v (all_met_lem (input_tests a p e h v) (sym (first_failing_lem (input_tests a p e h v)) ∙ sym told ∙ q))))
