-- Lines read by hand. Assumes nothing.
use Rattle.std.specs.Prelude.{Err, Ok}
use mathlib.Core.Path.{◌≡◌, refl}
use mathlib.Core.List.{[], ◌∷◌, map}
use lib.IntN.{pos}
use lib.Count.{count_trailing_zeros}
use lib.Ieee.{of_bits, of_fields, odd, of_int, round, units, size, span, climb, div, neg}
use Rattle.text.specs.Text.{ascii}
use Rattle.real.specs.F64.{bits}
use Rattle.iterator.specs.declared.Judgement.TheVariants.{Low, High}
use Rattle.words.specs.Words.{is_of, up_to, from, from_word, word_at, starts_with, is_word}
use Rattle.numerals.specs.Numbers.{digit_of, are_digits, value_of, word_digits, word_decimal, word_whole, word_signed, pattern_of, well_formed, unsigned_of, word_number}
use Rattle.forms.specs.declared.Request.TheVariants.{Nothing, Root, Trial}
use Rattle.forms.specs.Judgements.{word_judgement}
use Rattle.forms.specs.Forms.{read_by}
use Rattle.requests.specs.Requests.{request_of}

lines : map request_of (ascii "root 2" ∷ ascii "# root 2" ∷ ascii "" ∷ ascii "cot 2" ∷ ascii " kepler 1 x\r" ∷ ascii "kepler 1" ∷ ascii "c 1 2" ∷ ascii "trial 4 0 8 low:0 high:16 1" ∷ ascii "lambert 1 2 3 4 5 6 7 8 round" ∷ ascii "why root 2" ∷ ascii "why kepler 1" ∷ [])
    ≡ Ok (Root (bits 0x4000_0000_0000_0000)) ∷ Ok Nothing ∷ Ok Nothing ∷ Err 1 ∷ Err 3 ∷ Err 3 ∷ Err 3 ∷ Ok (Trial (bits 0x4010_0000_0000_0000) (pos 0) (pos 8) (Low (bits 0)) (High (bits 0x4030_0000_0000_0000)) 1) ∷ Err 10 ∷ Err 2 ∷ Err 4 ∷ []
unfolding request_of read_by word_at from_word from up_to is_of is_word starts_with word_number pattern_of unsigned_of well_formed word_digits are_digits value_of digit_of word_decimal word_whole word_signed word_judgement of_bits of_fields odd of_int round units size span climb div neg count_trailing_zeros
lines = refl
