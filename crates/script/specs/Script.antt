-- A session as text: what is said of each record, piece by piece. Assumes nothing: these are definitions.
use Rattle.std.specs.Prelude.{ℕ, ◌≡◌, List, [], ◌∷◌, ◌++◌, cond, length, drop, ltb, ℤ, Float, Err, None, Ok, Option, Result, Some}
use Rattle.refusal.specs.declared.Refusal.{Refusal}
use Rattle.refusal.specs.Refusals.{number_of}
use Rattle.text.specs.Text.{ascii, decimal, signed_text}
use Rattle.text.specs.Pieces.{concat}
use Rattle.columns.specs.declared.Style.TheVariants.{Places, Bits}
use Rattle.columns.specs.Rows.{row_pieces}
use Rattle.session.specs.declared.record.Kind.{Kind}
use Rattle.session.specs.declared.record.Record.{Record}
use Rattle.session.specs.declared.record.Record.TheVariants as R
use Rattle.session.specs.declared.Place.{Place}
use Rattle.session.specs.declared.Reading.{Reading}
use Rattle.session.specs.declared.Reading.TheVariants as A
use Rattle.session.specs.Kinds.{name_of}
use Rattle.session.specs.Layout.{kind_in, vehicle_in, time_in, numbers_in}
use Rattle.session.specs.Read.{read_at}
use Rattle.lines.specs.Days.{local_of, day_of, cs_of}
use Rattle.lines.specs.Lines.{refused_pieces}
use Rattle.script.specs.declared.Shown.{Shown}

-- the bytes that hold the lines of every record
abbrev pub script_room : ℕ
script_room = 512

-- `# day DAY cs CS: `
unfoldable pub day_pieces : ℤ → List (List ℕ)
day_pieces t = ascii "# day " ∷ signed_text (day_of t) ∷ ascii " cs " ∷ decimal (cs_of t) ∷ ascii ": " ∷ []

-- `KIND of vehicle V`
unfoldable pub who_pieces : Kind → ℕ → List (List ℕ)
who_pieces k v = name_of k ∷ ascii " of vehicle " ∷ decimal v ∷ []

-- `KIND TIME VEHICLE`
unfoldable pub head_pieces : Kind → ℤ → ℕ → List (List ℕ)
head_pieces k t v = name_of k ∷ ascii " " ∷ signed_text t ∷ ascii " " ∷ decimal v ∷ []

-- ` BODY`
unfoldable pub body_pieces : ℕ → List (List ℕ)
body_pieces b = ascii " " ∷ decimal b ∷ []

-- the comment, by the local clock and with the numbers to six places, and what begins the line behind it
unfoldable pub front_pieces : ℤ → ℤ → Kind → ℕ → List Float → List (List ℕ)
front_pieces t o k v xs = day_pieces (local_of t o) ++ (who_pieces k v ++ (row_pieces Places xs ++ (ascii "\n" ∷ head_pieces k t v)))

-- the bits of the numbers, which end that line
unfoldable pub back_pieces : List Float → List (List ℕ)
back_pieces xs = row_pieces Bits xs ++ (ascii "\n" ∷ [])

-- a record's two lines; a state has its body behind the vehicle
abbrev pub middle : Record → List (List ℕ)
middle (R.State r) = body_pieces r.body
middle (R.Burn r) = []
middle (R.Mark r) = []

abbrev pub record_pieces : ℤ → Record → List (List ℕ)
record_pieces o r =
    front_pieces (time_in r) o (kind_in r) (vehicle_in r) (numbers_in r) ++ (middle r ++ back_pieces (numbers_in r))

-- those of the offset's record
unfoldable pub offset_pieces : ℤ → List (List ℕ)
offset_pieces z = ascii "# offset " ∷ signed_text z ∷ ascii " minutes\noffset " ∷ signed_text z ∷ ascii "\n" ∷ []

-- what is said of what was read
abbrev pub pieces_of : Reading → List (List ℕ)
pieces_of (A.Record r p) = record_pieces p.offset r
pieces_of (A.Offset p) = offset_pieces p.offset
pieces_of A.End = []
pieces_of (A.Refused n p) = refused_pieces (ascii "# refused ") (number_of n) p.at

-- and where to go on: behind a record and behind the offset's, nowhere else
abbrev pub next_of : Reading → Option Place
next_of (A.Record r p) = Some p
next_of (A.Offset p) = Some p
next_of A.End = None
next_of (A.Refused m p) = None

abbrev pub shown_as : Reading → ℕ → Shown
shown_as r n = record { length = n; next = next_of r }

-- the lines of what stands at a place
abbrev pub text_at : List ℕ → Place → List ℕ
text_at s p = concat (pieces_of (read_at s p))

-- made in the buffer d, which makes e, and r is answered: they stand at the front and the bytes past them as they were;
-- if d has less than the room it stays as it was, and the answer is 15
pub record ShownAt (s : List ℕ) (p : Place) (d e : List ℕ) (r : Result Shown Refusal) : Type 0 where
  pub answer : r ≡ cond (ltb (length d) script_room) (Err Refusal.NoRoom) (Ok (shown_as (read_at s p) (length (text_at s p))))
  pub buffer : e ≡ cond (ltb (length d) script_room) d (text_at s p ++ drop (length (text_at s p)) d)
