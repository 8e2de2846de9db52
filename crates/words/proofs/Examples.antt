-- Words found by hand. Assumes nothing.
use mathlib.Core.Path.{◌≡◌, refl}
use Rattle.text.specs.Text.{ascii}
use Rattle.words.specs.Words.{is_of, up_to, from, from_word, word_at}

-- behind the last word a blank and a carriage return
second_word : word_at 1 (ascii "c  -1.5 \r") ≡ ascii "-1.5"
unfolding word_at from_word from up_to is_of
second_word = refl
