-- Limits and amounts as they are shown. Assumes nothing.
use Rattle.refusal.specs.declared.Refusal.TheVariants as Refusal
use Prim.Native.Nat.{ℕ}
use mathlib.Core.Path.{◌≡◌, refl}
use mathlib.Core.List.{List, [], ◌∷◌, map}
use lib.Ieee.{Float, nan, of_bits, of_fields, odd, to_bits, size, span, climb, eq}
use lib.Count.{count_trailing_zeros}
use Rattle.real.specs.F64.{bits, two^, two^-}
use Rattle.text.specs.Text.{ascii, digit_text, digits}
use Rattle.text.specs.Pieces.{concat}
use Rattle.figures.specs.Figures.{places, fixed_of}
use Rattle.table.specs.declared.Name.TheVariants as N
use Rattle.table.specs.declared.Part.TheVariants as Pa
use Rattle.table.specs.declared.Limit.TheVariants.{Finite, AtLeast}
use Rattle.table.specs.Tests.{entry}
use Rattle.names.specs.Names.{word_text}
use Rattle.limits.specs.Limits.{is_power, power_pieces, other_pieces, bound_pieces, exact_of, amount_pieces, failed_pieces}

abbrev shown : Float → List ℕ
shown x = concat (bound_pieces x)

-- powers of two
powers : map shown (two^ 36 ∷ two^ 28 ∷ two^ 3 ∷ two^ 0 ∷ two^- 10 ∷ two^- 40 ∷ [])
    ≡ ascii "2^36" ∷ ascii "2^28" ∷ ascii "2^3" ∷ ascii "2^0" ∷ ascii "2^-10" ∷ ascii "2^-40" ∷ []
unfolding concat bound_pieces other_pieces is_power power_pieces fixed_of to_bits size span climb of_bits of_fields odd count_trailing_zeros digits places digit_text eq
powers = refl

others : map shown (bits 0 ∷ bits 0x4044_0000_0000_0000 ∷ bits 0xC049_0000_0000_0000 ∷ bits 0x3FE8_0000_0000_0000 ∷ bits 0xC010_0000_0000_0000 ∷ bits 0x40AC_1E00_0000_0000 ∷ [])
    ≡ ascii "0" ∷ ascii "40" ∷ ascii "-50" ∷ ascii "0.750000" ∷ ascii "-4.000000" ∷ ascii "3599.000000" ∷ []
unfolding concat bound_pieces other_pieces is_power power_pieces fixed_of to_bits size span climb of_bits of_fields odd count_trailing_zeros digits places digit_text eq
others = refl

not-a-number : concat (failed_pieces (entry Refusal.NotFinite N.Position Pa.Y nan Finite)) ≡ ascii "ry nan must be finite bits x7FF8000000000000"
unfolding concat failed_pieces word_text amount_pieces fixed_of exact_of to_bits places digit_text
not-a-number = refl

too_short : concat (failed_pieces (entry Refusal.PositionOutOfRange N.First Pa.Length (bits 0x3FF8_0000_0000_0000) (AtLeast (two^ 18))))
    ≡ ascii "|a| 1.500000 must be at least 2^18 bits x3FF8000000000000"
unfolding concat failed_pieces word_text amount_pieces exact_of bound_pieces other_pieces is_power power_pieces fixed_of to_bits size span climb of_bits of_fields odd count_trailing_zeros digits places digit_text eq
too_short = refl
