-- How long a figure can be. Assumes nothing.
use Prim.Native.Nat.{ℕ, ◌*◌, ◌/◌, ◌^◌, ◌≤◌, ◌<◌}
use native.Mathlib.Nat.{div-lt_iff_lt-mul, mul_right_comm, mul-lt-mul_of_pos_right}
use native.Mathlib.Omega.{arith}
use mathlib.Core.Path.{◌≡◌, refl, subst}
use mathlib.Core.List.{◌∷◌}
use mathlib.Core.Bool.{Bool, true, false, cond}
use lib.ListN.{length, length-append}
use lib.Dec.{leb, lit≤, lit<}
use lib.Ieee.{Float, nan, inf, fin, binary64, up, down, is_nan, to_bits}
use lib.Ieee.Fits.{down_pos}
use borrow.Author.Tests.{leb-false}
use Rattle.text.proofs.Decimals.{short}
use Rattle.figures.specs.Figures.{places, nan_text, large_text, millionths, fixed_of, bits_text}
use Rattle.figures.proofs.Places.{minus-short, places-length}

millionths-short : (s : Bool) (n : ℕ) → n < 8796093022208000000 → length (millionths s n) ≤ 21
millionths-short s n h =
    let t : n / 1000000 < 10 ^ 13 = omega arith in
    let l = short 20 12 (n / 1000000) t in
    simp length-append (omega (arith, minus-short s, places-length 10 6 n))

-- a size of under 2^43 has under 2^43 * 10^6 millionths
under : (m d : ℕ) → 0 < d → m < 8796093022208 * d → m * 1000000 / d < 8796093022208000000
under m d p h =
    let q : m * 1000000 < 8796093022208 * d * 1000000 = mul-lt-mul_of_pos_right h (lit< tt) in
    (div-lt_iff_lt-mul p).1 (subst (λ (z : ℕ). m * 1000000 < z) (mul_right_comm 8796093022208 d 1000000) q)

by-test : (s : Bool) (m d : ℕ) (b : Bool) → 0 < d → leb (8796093022208 * d) m ≡ b
    → length (cond b large_text (millionths s (m * 1000000 / d))) ≤ 21
by-test s m d true p e = lit≤ tt
by-test s m d false p e = millionths-short s (m * 1000000 / d) (under m d p (leb-false (8796093022208 * d) m e))

pub fixed-short : (x : Float) → length (fixed_of x) ≤ 21
unfolding fixed_of
fixed-short nan = lit≤ tt
fixed-short (inf s) = lit≤ tt
fixed-short (fin s m e) = by-test s (m * up e) (down e) (leb (8796093022208 * down e) (m * up e)) (down_pos e) refl

by-nan : (b : Bool) (n : ℕ) → length (cond b nan_text (120 ∷ places 16 16 n)) ≤ 17
by-nan true n = lit≤ tt
by-nan false n = omega (arith, places-length 16 16 n)

pub bits-short : (x : Float) → length (bits_text x) ≤ 17
unfolding bits_text
bits-short x = by-nan (is_nan x) (to_bits binary64 x)
