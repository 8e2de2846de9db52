-- Parts of a line behind its first k words: what they say, or the number of the first word that cannot be read, the line's
-- first word being 1. A missing word is empty, and no number is. Assumes nothing: these are definitions.
use Rattle.vector.specs.declared.Vector.{Vector}
use Rattle.std.specs.Prelude.{ℕ, ◌+◌, List, Err, Float, None, Ok, Option, Result, Some, ℤ}
use Rattle.words.specs.Words.{word_at}
use Rattle.numerals.specs.Numbers.{word_number, word_whole, word_signed}

-- `TIME VEHICLE`, the second word and the third
abbrev pub stamped : Option ℤ → Option ℕ → Result (ℤ × ℕ) ℕ
stamped (Some t) (Some v) = Ok (t, v)
stamped (Some t) None = Err 3
stamped None v = Err 2

abbrev pub stamp_of : List ℕ → Result (ℤ × ℕ) ℕ
stamp_of line = stamped (word_signed (word_at 1 line)) (word_whole (word_at 2 line))

-- two numbers
abbrev pub paired : ℕ → Option Float → Option Float → Result (Float × Float) ℕ
paired k (Some x) (Some y) = Ok (x, y)
paired k (Some x) None = Err (k + 2)
paired k None y = Err (k + 1)

abbrev pub pair_at : ℕ → List ℕ → Result (Float × Float) ℕ
pair_at k line = paired k (word_number (word_at k line)) (word_number (word_at (k + 1) line))

-- three numbers
abbrev pub tripled : ℕ → Result (Float × Float) ℕ → Option Float → Result Vector ℕ
tripled k (Ok (x, y)) (Some z) = Ok (record { x = x; y = y; z = z })
tripled k (Ok (x, y)) None = Err (k + 3)
tripled k (Err w) z = Err w

abbrev pub vector_at : ℕ → List ℕ → Result Vector ℕ
vector_at k line = tripled k (pair_at k line) (word_number (word_at (k + 2) line))
