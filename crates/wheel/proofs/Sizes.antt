-- Sine and cosine are finite and at most 1 in size. Assumes nothing.
use Rattle.std.proofs.Common.{◌≡◌, ℕ, zero, suc, ◌-◌, ◌*◌, ◌^◌, ◌<◌, ◌≤◌, Bool, true, false, ℤ, pos, negsuc, neg_ℤ, nat_abs, sym, ap, ◌∙◌, subst, lt_of_le_of_lt, mul-le-mul_right, mul_assoc, mul_comm, mul_right_comm, arith, lit≤}
use native.Mathlib.Nat.{mul-mul-mul_comm, eq_of_mul-eq-mul_right}
use lib.Ieee.{Float, nan, inf, fin, up, down, binary64, of_int, of_bits, div, round}
use lib.Ieee.Back.{round_whole}
use lib.Ieee.Fits.{down_pos}
use lib.Ieee.Exact.{HasValue, round_exact}
use Rattle.real.specs.F64.{two^, ◌⊘◌}
use Rattle.real.proofs.Bounds.{Within, AtLeast, round-below, div-within}
use Rattle.wheel.specs.Sines.{sine_entry}
use Rattle.wheel.specs.Wheel.{signed_sine, signed_cosine, on_by, over_of}
use Rattle.wheel.proofs.Entries.{at_most}
use Rattle.wheel.proofs.Turns.{negative}
use Rattle.wheel.proofs.Quadrants.{first, second, third, fourth, on_below, Quadrant, q1, q2, q3, q4, quadrant}

turned : (n : ℕ) → n ≤ 1073741824 → nat_abs (neg_ℤ (pos n)) ≤ 1073741824
turned zero h = h
turned (suc n) h = h

abbrev Small : ℤ → Type 0
Small z = nat_abs z ≤ 1073741824

pub sine-most : (e : ℕ) → e < 3600 → nat_abs (signed_sine e) ≤ 1073741824
sine-most e l = go (quadrant e)
  where
    go : Quadrant e → Small (signed_sine e)
    go (q1 h) = subst Small (sym (first e h)) (at_most e h)
    go (q2 g h) = subst Small (sym (second e g h)) (at_most (1800 - e) (omega arith))
    go (q3 g h) = subst Small (sym (third e g h)) (turned (sine_entry (e - 1800)) (at_most (e - 1800) (omega arith)))
    go (q4 g) = subst Small (sym (fourth e g)) (turned (sine_entry (3600 - e)) (at_most (3600 - e) (omega arith)))

whole-within : (z : ℤ) → nat_abs z ≤ 1073741824 → Within (of_int binary64 z) (1073741824 * 1)
unfolding of_int
whole-within (pos n) h = round-below false n 1 1073741824 (lit≤ tt) (lit≤ tt) (omega arith)
whole-within (negsuc n) h = round-below true (suc n) 1 1073741824 (lit≤ tt) (lit≤ tt) (omega arith)

divisor : AtLeast (two^ 30) 1073741824
unfolding of_bits
divisor = lit≤ tt

over-within : (z : ℤ) → nat_abs z ≤ 1073741824 → Within (over_of z) 1
over-within z h = div-within (of_int binary64 z) (two^ 30) 1073741824 1 (lit≤ tt) (whole-within z h) divisor

pub sine-within : (e : ℕ) → e < 3600 → Within (over_of (signed_sine e)) 1
sine-within e h = over-within (signed_sine e) (sine-most e h)

pub cosine-within : (e : ℕ) → e < 3600 → Within (over_of (signed_cosine e)) 1
cosine-within e h = over-within (signed_cosine e) (sine-most (on_by 900 e) (on_below 900 e (lit≤ tt) h))

-- ---- a signed entry over 2^30 is exact

-- n over 2^30, with its sign
abbrev pub Exact : Bool → ℕ → ℤ → Type 0
Exact s n z = HasValue (over_of z) s n 1073741824

-- the same value over another denominator
rescaled : (x : Float) (s : Bool) (a c b d : ℕ) → 0 < c → a * d ≡ b * c → HasValue x s a c → HasValue x s b d
rescaled nan s a c b d p q h = absurd h
rescaled (inf t) s a c b d p q h = absurd h
rescaled (fin t m e) s a c b d p q h = (
  h.0,
  eq_of_mul-eq-mul_right c p _ _ (mul_right_comm (m * up e) d c ∙ ap (λ (z : ℕ). z * d) h.1 ∙ mul_right_comm a (down e) d ∙ ap (λ (z : ℕ). z * down e) q ∙ mul_right_comm b c (down e)),
)

moved : (M n D W : ℕ) → M * 1 ≡ n * D → M * 1 * (W * 1073741824) ≡ n * W * (1073741824 * D)
moved M n D W h =
    ap (λ (z : ℕ). z * (W * 1073741824)) h ∙ mul-mul-mul_comm n D W 1073741824 ∙ ap (λ (z : ℕ). n * W * z) (mul_comm D 1073741824)

quotient : (s : Bool) (m : ℕ) (e : ℤ) (n : ℕ) → n ≤ 1073741824 → m * up e * 1 ≡ n * down e → HasValue (round binary64 s (m * up e * 1) (1073741824 * down e)) s n 1073741824
quotient s m e n l h =
    let D = 1073741824 * down e in
    let p : 0 < D = omega (arith, down_pos e) in
    rescaled (round binary64 s (m * up e * 1) D) s (m * up e * 1) D n 1073741824 p
    (ap (λ (z : ℕ). z * 1073741824) h ∙ mul_assoc n (down e) 1073741824 ∙ ap (λ (z : ℕ). n * z) (mul_comm (down e) 1073741824))
    (round_exact binary64 s (m * up e * 1) D n 1044 p (omega arith) (fine n l) (moved (m * up e) n (down e) (2 ^ 1044) h))
  where
    fine : (n : ℕ) → n ≤ 1073741824 → n * 2 ^ 1044 < 2 ^ 2098
    fine n l = lt_of_le_of_lt (mul-le-mul_right (2 ^ 1044) l) (lit≤ tt)

divided : (x : Float) (s : Bool) (n : ℕ) → n ≤ 1073741824 → HasValue x s n 1 → HasValue (x ⊘ two^ 30) s n 1073741824
unfolding div of_bits
divided nan s n l h = absurd h
divided (inf t) s n l h = absurd h
divided (fin true m e) s n l h = subst (λ (t : Bool). HasValue (fin true m e ⊘ two^ 30) t n 1073741824) h.0 (quotient true m e n l h.1)
divided (fin false m e) s n l h = subst (λ (t : Bool). HasValue (fin false m e ⊘ two^ 30) t n 1073741824) h.0 (quotient false m e n l h.1)

over-plus : (n : ℕ) → n ≤ 1073741824 → Exact false n (pos n)
unfolding of_int
over-plus n h = divided (round binary64 false n 1) false n h (round_whole binary64 false n (omega arith))

over-minus : (n : ℕ) → suc n ≤ 1073741824 → Exact true (suc n) (negsuc n)
unfolding of_int
over-minus n h = divided (round binary64 true (suc n) 1) true (suc n) h (round_whole binary64 true (suc n) (omega arith))

over-exact : (z : ℤ) → nat_abs z ≤ 1073741824 → Exact (negative z) (nat_abs z) z
over-exact (pos n) h = over-plus n h
over-exact (negsuc n) h = over-minus n h

pub sine-exact : (e : ℕ) → e < 3600 → Exact (negative (signed_sine e)) (nat_abs (signed_sine e)) (signed_sine e)
sine-exact e h = over-exact (signed_sine e) (sine-most e h)
