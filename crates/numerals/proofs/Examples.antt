-- Words read by hand. Assumes nothing.
use Rattle.std.specs.Prelude.{None, Some}
use Rattle.std.proofs.Common.{◌≡◌, [], ◌∷◌, map, negsuc, refl}
use lib.Ieee.{nan, of_bits, of_fields, odd, of_int, round, units, size, span, climb, div, neg}
use lib.Count.{count_trailing_zeros}
use Rattle.text.specs.Text.{ascii}
use Rattle.real.specs.F64.{bits}
use Rattle.words.specs.Words.{is_of, up_to, from}
use Rattle.numerals.specs.Numbers.{digit_of, are_digits, value_of, word_digits, word_decimal, word_signed, pattern_of, well_formed, unsigned_of, word_number}

numbers : map word_number (ascii "-1.5" ∷ ascii "-0" ∷ ascii "x7ff8000000000001" ∷ ascii "1." ∷ ascii ".5" ∷ ascii "1234567890123456" ∷ [])
    ≡ Some (bits 0xBFF8_0000_0000_0000) ∷ Some (bits 0x8000_0000_0000_0000) ∷ Some nan ∷ None ∷ None ∷ None ∷ []
unfolding word_number pattern_of unsigned_of well_formed word_digits are_digits value_of digit_of from up_to is_of of_bits of_fields odd of_int round units size span climb div neg count_trailing_zeros
numbers = refl

lowest : word_signed (ascii "-9223372036854775808") ≡ Some (negsuc 9223372036854775807)
unfolding word_signed word_decimal word_digits are_digits value_of digit_of
lowest = refl
