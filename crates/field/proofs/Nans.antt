-- The bits of the NaN. Assumes nothing.
use mathlib.Core.Path.{◌≡◌, refl, sym}
use mathlib.Core.Bool.{true, true≢false}
use lib.Ieee.{Float, nan, inf, fin, binary64, to_bits, is_nan}

pub nan-bits : (x : Float) → is_nan x ≡ true → 9221120237041090560 ≡ to_bits binary64 x
unfolding is_nan to_bits
nan-bits nan e = refl
nan-bits (inf s) e = absurd (true≢false (sym e))
nan-bits (fin s m k) e = absurd (true≢false (sym e))
