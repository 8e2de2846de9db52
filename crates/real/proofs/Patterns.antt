-- Which 64 bits are those of a NaN, and what is no NaN. Assumes nothing.
use Rattle.std.proofs.Common.{◌≡◌, ℕ, ◌%◌, ◌<◌, ◌≤◌, true, false, not, T, sym, refl, ap, ◌∙◌, subst, true≢false, le-ltb, lt-ltb}
use lib.Ieee.{Float, nan, inf, fin, binary64, div, of_bits, of_fields, to_bits, odd, is_nan, nan_bits, ne}
use lib.Ieee.Compare.{differs_from_itself}
use lib.Ieee.Bits.{nan_bits_is, nan_bits_above}
use Rattle.real.specs.F64.{finite}

pub quiet : div binary64 (of_bits binary64 0) (of_bits binary64 0) ≡ nan
unfolding div of_bits of_fields odd
quiet = refl

is-nan : (x : Float) → is_nan x ≡ true → x ≡ nan
unfolding is_nan
is-nan nan e = refl
is-nan (inf s) e = absurd (true≢false (sym e))
is-nan (fin s m e) h = absurd (true≢false (sym h))

pub nan-bits : (n : ℕ) → 9218868437227405312 < n % 9223372036854775808 → div binary64 (of_bits binary64 0) (of_bits binary64 0) ≡ of_bits binary64 n
nan-bits n h = quiet ∙ sym (is-nan (of_bits binary64 n) (sym (nan_bits_is binary64 n) ∙ nan_bits_above binary64 n ∙ lt-ltb _ _ h))

pub no-nan-bits : (n : ℕ) → n % 9223372036854775808 ≤ 9218868437227405312 → T (not (nan_bits binary64 n))
no-nan-bits n h = rw (nan_bits_above binary64 n, le-ltb _ _ h) tt

-- what differs from itself is the NaN, which has one pattern
pub nan_pattern : (x : Float) → ne x x ≡ true → to_bits binary64 x ≡ 9221120237041090560
unfolding to_bits
nan_pattern x e = ap (to_bits binary64) (differs_from_itself x (subst T (sym e) tt))

-- and what does not is none
pub not-nan : (x : Float) → ne x x ≡ false → T (not (is_nan x))
unfolding ne is_nan
not-nan nan e = absurd (true≢false e)
not-nan (inf s) e = tt
not-nan (fin s m e) h = tt

pub finite-not-nan : (x : Float) → finite x ≡ true → T (not (is_nan x))
unfolding is_nan
finite-not-nan nan h = absurd (true≢false (sym h))
finite-not-nan (inf s) h = tt
finite-not-nan (fin s m e) h = tt
