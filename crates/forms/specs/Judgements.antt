-- What a word says as a judgement: `under`, `over`, `low:NUMBER`, `high:NUMBER`. Assumes nothing: these are definitions.
use Rattle.iterator.specs.declared.Judgement.{Judgement}
use Rattle.std.specs.Prelude.{ℕ, cond, List, drop, Float, None, Option, Some}
use Rattle.text.specs.Text.{ascii}
use Rattle.iterator.specs.declared.Judgement.TheVariants.{Low, High, Under, Over}
use Rattle.words.specs.Words.{starts_with, is_word}
use Rattle.numerals.specs.Numbers.{word_number}

abbrev pub as_low : Option Float → Option Judgement
as_low (Some x) = Some (Low x)
as_low None = None

abbrev pub as_high : Option Float → Option Judgement
as_high (Some x) = Some (High x)
as_high None = None

unfoldable pub word_judgement : List ℕ → Option Judgement
word_judgement s =
    cond (is_word s (ascii "under")) (Some Under)
    (cond (is_word s (ascii "over")) (Some Over)
    (cond (starts_with s (ascii "low:")) (as_low (word_number (drop 4 s)))
    (cond (starts_with s (ascii "high:")) (as_high (word_number (drop 5 s))) None)))
