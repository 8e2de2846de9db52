-- What a line of a session's text says, or the number of its first word that cannot be read, the line's first word being 1.
-- Assumes nothing: these are definitions.
--
--   offset MINUTES
--   state TIME VEHICLE BODY X X X X X X
--   burn TIME VEHICLE X X X
--   mark TIME VEHICLE X X
use Rattle.vector.specs.declared.Vector.{Vector}
use Rattle.std.specs.Prelude.{ℕ, ◌+◌, cond, List, length, eqb, ltb, ℤ, Err, Float, None, Ok, Option, Result, Some}
use Rattle.text.specs.Text.{ascii}
use Rattle.words.specs.Words.{word_at, starts_with, is_word, is_end}
use Rattle.numerals.specs.Numbers.{word_whole, word_signed}
use Rattle.entry.specs.declared.line.Entry.{Entry}
use Rattle.entry.specs.declared.line.Entry.TheVariants.{Nothing, Offset, State, Burn, Mark}
use Rattle.entry.specs.Parts.{stamp_of, pair_at, vector_at}

-- this is said if no word stands behind the first k
unfoldable pub ended : ℕ → List ℕ → Entry → Result Entry ℕ
ended k line e = cond (is_end k line) (Ok e) (Err (k + 1))

abbrev pub offset_by : Option ℤ → List ℕ → Result Entry ℕ
offset_by (Some z) line = ended 2 line (Offset z)
offset_by None line = Err 2

abbrev pub offset_entry : List ℕ → Result Entry ℕ
offset_entry line = offset_by (word_signed (word_at 1 line)) line

-- the body, the position and the velocity behind a time and a vehicle
abbrev pub state_by : ℤ → ℕ → Option ℕ → Result Vector ℕ → Result Vector ℕ → List ℕ → Result Entry ℕ
state_by t n (Some b) (Ok r) (Ok v) line =
    ended 10 line (State t n b (record { rx = r.x; ry = r.y; rz = r.z; vx = v.x; vy = v.y; vz = v.z }))
state_by t n (Some b) (Ok r) (Err w) line = Err w
state_by t n (Some b) (Err w) v line = Err w
state_by t n None r v line = Err 4

abbrev pub bodied : ℤ → ℕ → List ℕ → Result Entry ℕ
bodied t n line = state_by t n (word_whole (word_at 3 line)) (vector_at 4 line) (vector_at 7 line) line

abbrev pub state_for : Result (ℤ × ℕ) ℕ → List ℕ → Result Entry ℕ
state_for (Ok (t, n)) line = bodied t n line
state_for (Err w) line = Err w

abbrev pub state_entry : List ℕ → Result Entry ℕ
state_entry line = state_for (stamp_of line) line

abbrev pub burn_by : Result (ℤ × ℕ) ℕ → Result Vector ℕ → List ℕ → Result Entry ℕ
burn_by (Ok (t, n)) (Ok d) line = ended 6 line (Burn t n d)
burn_by (Ok (t, n)) (Err w) line = Err w
burn_by (Err w) d line = Err w

abbrev pub burn_entry : List ℕ → Result Entry ℕ
burn_entry line = burn_by (stamp_of line) (vector_at 3 line) line

abbrev pub mark_by : Result (ℤ × ℕ) ℕ → Result (Float × Float) ℕ → List ℕ → Result Entry ℕ
mark_by (Ok (t, n)) (Ok (x, y)) line = ended 5 line (Mark t n x y)
mark_by (Ok (t, n)) (Err w) line = Err w
mark_by (Err w) p line = Err w

abbrev pub mark_entry : List ℕ → Result Entry ℕ
mark_entry line = mark_by (stamp_of line) (pair_at 3 line) line

-- by its name, the line's first word
abbrev pub named_of : List ℕ → List ℕ → Result Entry ℕ
named_of name line =
    cond (is_word name (ascii "offset")) (offset_entry line)
    (cond (is_word name (ascii "state")) (state_entry line)
    (cond (is_word name (ascii "burn")) (burn_entry line) (cond (is_word name (ascii "mark")) (mark_entry line) (Err 1))))

-- a comment, or no word: nothing is said; over 1,000 bytes: no word is read
unfoldable pub entry_of : List ℕ → Result Entry ℕ
entry_of line =
    cond (starts_with line (ascii "#")) (Ok Nothing)
    (cond (ltb 1000 (length line)) (Err 0)
    (cond (eqb (length (word_at 0 line)) 0) (Ok Nothing) (named_of (word_at 0 line) line)))
