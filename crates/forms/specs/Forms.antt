-- A form says what words a line is to have and what they make; here is how a line is read by one. Each word is read once,
-- and the first that cannot be read is told by its number, the line's first word being 1. Assumes nothing: these are definitions.
use Rattle.std.specs.Prelude.{ℕ, zero, suc, ◌+◌, cond, List, [], ◌∷◌, ℤ, Float, None, Option, Some, Err, Ok, Result}
use Rattle.iterator.specs.declared.Judgement.{Judgement}
use Rattle.words.specs.Words.{word_at, is_end, is_word}
use Rattle.numerals.specs.Numbers.{word_number, word_signed, word_whole}
use Rattle.forms.specs.declared.Request.{Request}
use Rattle.forms.specs.Judgements.{word_judgement}

pub data Form : Type 0 where
  -- no word more, and this is asked
  end : Request → Form
  -- a number, a whole number in −2^63..2^63−1, one in 0..2^64−1, a judgement; and what follows it
  number : (Float → Form) → Form
  signed : (ℤ → Form) → Form
  whole : (ℕ → Form) → Form
  judgement : (Judgement → Form) → Form
  -- this very word and what follows it, or else what stands in its place
  word : List ℕ → Form → Form → Form
  -- no word that stands here can be read
  none : Form

abbrev pub by_number : Option Float → (Float → Result Request ℕ) → Result Request ℕ → Result Request ℕ
by_number (Some x) go bad = go x
by_number None go bad = bad

abbrev pub by_signed : Option ℤ → (ℤ → Result Request ℕ) → Result Request ℕ → Result Request ℕ
by_signed (Some z) go bad = go z
by_signed None go bad = bad

abbrev pub by_whole : Option ℕ → (ℕ → Result Request ℕ) → Result Request ℕ → Result Request ℕ
by_whole (Some n) go bad = go n
by_whole None go bad = bad

abbrev pub by_judged : Option Judgement → (Judgement → Result Request ℕ) → Result Request ℕ → Result Request ℕ
by_judged (Some j) go bad = go j
by_judged None go bad = bad

-- the request of a line whose first k words are read, or the number of the first word that cannot be read. A missing word is empty, and no number, judgement or name is.
unfoldable pub read_by : Form → ℕ → List ℕ → Result Request ℕ
read_by (end x) k line = cond (is_end k line) (Ok x) (Err (k + 1))
read_by (number go) k line = by_number (word_number (word_at k line)) (λ (x : Float). read_by (go x) (k + 1) line) (Err (k + 1))
read_by (signed go) k line = by_signed (word_signed (word_at k line)) (λ (z : ℤ). read_by (go z) (k + 1) line) (Err (k + 1))
read_by (whole go) k line = by_whole (word_whole (word_at k line)) (λ (n : ℕ). read_by (go n) (k + 1) line) (Err (k + 1))
read_by (judgement go) k line = by_judged (word_judgement (word_at k line)) (λ (j : Judgement). read_by (go j) (k + 1) line) (Err (k + 1))
read_by (word w next other) k line = cond (is_word (word_at k line) w) (read_by next (k + 1) line) (read_by other k line)
read_by none k line = Err (k + 1)

-- n numbers, and what follows them
unfoldable pub numbers : ℕ → (List Float → Form) → Form
numbers zero go = go []
numbers (suc n) go = number λ x. numbers n (λ (xs : List Float). go (x ∷ xs))
