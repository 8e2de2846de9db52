-- The words of a line, and what a word is compared with. Assumes nothing: these are definitions.
use Rattle.std.specs.Prelude.{ℕ, zero, suc, Bool, true, false, not, ◌&&◌, ◌||◌, cond, List, [], ◌∷◌, length, eqb}
use Rattle.words.specs.declared.Byte.{Byte}
use Rattle.words.specs.declared.Byte.TheVariants.{Blank, NotBlank, Point}

-- a space, a tab, a carriage return
abbrev pub blank : ℕ → Bool
blank b = eqb b 32 || (eqb b 9 || eqb b 13)

-- whether a byte is a blank, any byte but a blank, the point
unfoldable pub is_of : Byte → ℕ → Bool
is_of Blank b = blank b
is_of NotBlank b = not (blank b)
is_of Point b = eqb b 46

-- the bytes up to the first such byte, and those from it on
unfoldable pub up_to : Byte → List ℕ → List ℕ
up_to c [] = []
up_to c (b ∷ s) = cond (is_of c b) [] (b ∷ up_to c s)

unfoldable pub from : Byte → List ℕ → List ℕ
from c [] = []
from c (b ∷ s) = cond (is_of c b) (b ∷ s) (from c s)

-- the line from the word behind its first k words
unfoldable pub from_word : ℕ → List ℕ → List ℕ
from_word zero s = from NotBlank s
from_word (suc k) s = from NotBlank (from Blank (from_word k s))

-- the word behind the first k words; empty if there is none
unfoldable pub word_at : ℕ → List ℕ → List ℕ
word_at k s = up_to Blank (from_word k s)

-- no word stands behind the first k
abbrev pub is_end : ℕ → List ℕ → Bool
is_end k line = eqb (length (word_at k line)) 0

-- s starts with t
unfoldable pub starts_with : List ℕ → List ℕ → Bool
starts_with s [] = true
starts_with [] (b ∷ t) = false
starts_with (a ∷ s) (b ∷ t) = eqb a b && starts_with s t

-- s is t
unfoldable pub is_word : List ℕ → List ℕ → Bool
is_word s t = eqb (length s) (length t) && starts_with s t
