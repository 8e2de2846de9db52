-- The lines of the listing. Assumes nothing: these are definitions.
use Rattle.std.specs.Prelude.{ℕ, List, [], ◌∷◌, ◌++◌, ℤ}
use Rattle.session.specs.declared.record.Kind.{Kind}
use Rattle.session.specs.declared.record.Record.{Record}
use Rattle.session.specs.Kinds.{name_of}
use Rattle.session.specs.Layout.{kind_in, vehicle_in, time_in}
use Rattle.text.specs.Text.{ascii, decimal, signed_text}
use Rattle.text.specs.Pieces.{concat}
use Rattle.lines.specs.Days.{local_of, day_of, cs_of}

-- the bytes that a line buffer has at the least
abbrev pub line_room : ℕ
line_room = 40

abbrev pub heading_text : List ℕ
heading_text = ascii "day cs vehicle kind\n"

-- `DAY CS `
unfoldable pub clock_pieces : ℤ → List (List ℕ)
clock_pieces t = signed_text (day_of t) ∷ ascii " " ∷ decimal (cs_of t) ∷ ascii " " ∷ []

-- `DAY CS VEHICLE KIND`
unfoldable pub stamp_pieces : ℤ → ℕ → Kind → List (List ℕ)
stamp_pieces t v k = clock_pieces t ++ (decimal v ∷ ascii " " ∷ name_of k ∷ [])

-- the line of it
abbrev pub event_pieces : ℤ → ℕ → Kind → List (List ℕ)
event_pieces t v k = stamp_pieces t v k ++ (ascii "\n" ∷ [])

abbrev pub event_text : ℤ → ℕ → Kind → List ℕ
event_text t v k = concat (event_pieces t v k)

-- the time is shown by the local clock
abbrev pub record_text : ℤ → Record → List ℕ
record_text o r = event_text (local_of (time_in r) o) (vehicle_in r) (kind_in r)

-- `NUMBER at PLACE` behind the words that begin the line
unfoldable pub refused_pieces : List ℕ → ℕ → ℕ → List (List ℕ)
refused_pieces words n at = words ∷ decimal n ∷ ascii " at " ∷ decimal at ∷ ascii "\n" ∷ []

-- `refused NUMBER at PLACE`
abbrev pub refused_text : ℕ → ℕ → List ℕ
refused_text n at = concat (refused_pieces (ascii "refused ") n at)
