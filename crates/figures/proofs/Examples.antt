-- Figures made by hand. Assumes nothing.
use Prim.Native.Nat.{ℕ}
use mathlib.Core.Path.{◌≡◌, refl}
use mathlib.Core.List.{[], ◌∷◌, map}
use lib.Ieee.{binary64, of_bits, of_fields, odd, to_bits, size, span, climb, is_nan}
use lib.Count.{count_trailing_zeros}
use Rattle.text.specs.Text.{ascii, digit_text, digits}
use Rattle.figures.specs.Figures.{places, fixed_of, bits_text}

-- −0, the f64 nearest to −0.1, 2^43 and the f64 below it
four : map (λ (b : ℕ). fixed_of (of_bits binary64 b)) (0x8000_0000_0000_0000 ∷ 0xBFB9_9999_9999_999A ∷ 0x42A0_0000_0000_0000 ∷ 0x429F_FFFF_FFFF_FFFF ∷ [])
    ≡ ascii "-0.000000" ∷ ascii "-0.100000" ∷ ascii "large" ∷ ascii "8796093022207.999023" ∷ []
unfolding fixed_of of_bits of_fields odd count_trailing_zeros digits places digit_text
four = refl

one_and_a_half : bits_text (of_bits binary64 0x3FF8_0000_0000_0000) ≡ ascii "x3FF8000000000000"
unfolding bits_text is_nan to_bits size span climb of_bits of_fields odd count_trailing_zeros places digit_text
one_and_a_half = refl
