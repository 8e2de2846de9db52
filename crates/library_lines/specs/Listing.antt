-- The listing's lines as a number and a case. Assumes nothing: these are definitions.
use Rattle.refusal.specs.declared.Refusal.{Refusal}
use Rattle.refusal.specs.Refusals.{number_of}
use Rattle.std.specs.Prelude.{ℕ, ◌≡◌, Bool, cond, ◌&&◌, List, [], ◌∷◌, leb, ltb, length, ℤ, Err, Ok, Result}
use Rattle.lines.specs.Days.{local_of}
use Rattle.lines.specs.Lines.{line_room, event_text}
use Rattle.library_records.specs.Records.{kind_from}
use Rattle.lent.specs.Given.{Told, answer, refused, room_for, in_front}

-- the line's length
unfoldable pub made_told : Result ℕ Refusal → Told
made_told (Ok n) = answer [] (n ∷ [])
made_told (Err n) = refused n

-- a refusal as its number
abbrev pub by_number : Result ℕ Refusal → Result ℕ ℕ
by_number (Ok n) = Ok n
by_number (Err r) = Err (number_of r)

-- what is returned of a line's length, or of any number in its place: 0 for the length, else that number
unfoldable pub made_number : Result ℕ ℕ → ℕ
made_number (Ok n) = 0
made_number (Err n) = n

-- the array afterwards: the length in front; without one, it is as it was
unfoldable pub made_wholes : Result ℕ ℕ → List ℕ → List ℕ
made_wholes (Ok n) w = in_front (n ∷ []) w
made_wholes (Err n) w = w

-- a line's length, or any number in its place, is given: r is returned, and the lent array w becomes v; 15, and the array
-- as it was, where it has not enough room
pub record GivenMade (enough : Bool) (a : Result ℕ ℕ) (w v : List ℕ) (r : ℕ) : Type 0 where
  pub number : r ≡ cond enough (made_number a) 15
  pub wholes : v ≡ cond enough (made_wholes a w) w

-- 15 for a buffer that has less than the room
abbrev pub line_made : ℕ → List ℕ → List ℕ → Result ℕ Refusal
line_made room x d = cond (ltb (length d) room) (Err Refusal.NoRoom) (Ok (length x))

abbrev pub line_in : ℕ → List ℕ → List ℕ → List ℕ → Told
line_in room x d w = room_for (leb 1 (length w)) (made_told (line_made room x d))

-- the line of a record, by a clock that is o minutes ahead; 13 for a kind that is none of the three
abbrev pub record_line : ℕ → ℕ → ℤ → ℤ → List ℕ
record_line k v t o = event_text (local_of t o) v (kind_from k)

unfoldable pub record_line_told : ℕ → List ℕ → List ℕ → Told
record_line_told k x d = cond (leb 1 k && leb k 3) (made_told (line_made line_room x d)) (refused Refusal.UnknownKind)

abbrev pub record_line_in : ℕ → List ℕ → List ℕ → List ℕ → Told
record_line_in k x d w = room_for (leb 1 (length w)) (record_line_told k x d)
