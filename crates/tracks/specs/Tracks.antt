-- The lines of a replay, piece by piece: decimals for people, then `bits` and the same numbers exactly. Assumes nothing: these are definitions.
use Rattle.std.specs.Prelude.{ℕ, cond, List, [], ◌∷◌, ◌++◌, eqb, ℤ, None, Option, Some}
use Rattle.refusal.specs.Refusals.{number_of}
use Rattle.text.specs.Text.{ascii, decimal, signed_text}
use Rattle.columns.specs.Rows.{labelled_pieces, end_pieces}
use Rattle.session.specs.declared.record.Kind.{Kind}
use Rattle.session.specs.declared.record.Record.{Record}
use Rattle.session.specs.Layout.{kind_in, vehicle_in, time_in}
use Rattle.lines.specs.Days.{local_of}
use Rattle.lines.specs.Lines.{stamp_pieces}
use Rattle.flight.specs.declared.Flight.{Flight}
use Rattle.replay.specs.declared.Answer.{Answer as AnswerOf}
use Rattle.replay.specs.declared.Answer.TheVariants as A
use Rattle.replay.specs.Replay.{Answer}

unfoldable pub heading_pieces : List (List ℕ)
heading_pieces = ascii "day cs vehicle kind result\n" ∷ []

-- ` set`, ` done`, ` off D bits X`, ` refused N`, whatever the refusal is, by the number of that
unfoldable pub answer_pieces_by : {R : Type 0} → (R → ℕ) → AnswerOf R → List (List ℕ)
answer_pieces_by number A.Set = ascii " set\n" ∷ []
answer_pieces_by number A.Done = ascii " done\n" ∷ []
answer_pieces_by number (A.Off x) = labelled_pieces (ascii " off") (x ∷ []) ++ end_pieces (x ∷ [])
answer_pieces_by number (A.Refused n) = ascii " refused " ∷ decimal (number n) ∷ ascii "\n" ∷ []

-- `DAY CS VEHICLE KIND RESULT`
unfoldable pub event_pieces_by : {R : Type 0} → (R → ℕ) → ℤ → ℕ → Kind → AnswerOf R → List (List ℕ)
event_pieces_by number t v k a = stamp_pieces t v k ++ answer_pieces_by number a

-- the time is shown by the local clock
abbrev pub record_pieces_by : {R : Type 0} → (R → ℕ) → ℤ → Record → AnswerOf R → List (List ℕ)
record_pieces_by number o r a = event_pieces_by number (local_of (time_in r) o) (vehicle_in r) (kind_in r) a

abbrev pub answer_pieces : Answer → List (List ℕ)
answer_pieces a = answer_pieces_by number_of a

abbrev pub event_pieces : ℤ → ℕ → Kind → Answer → List (List ℕ)
event_pieces t v k a = event_pieces_by number_of t v k a

abbrev pub record_pieces : ℤ → Record → Answer → List (List ℕ)
record_pieces o r a = record_pieces_by number_of o r a

-- ` earth at `, ` moon at `
unfoldable pub about_text : ℕ → List ℕ
about_text body = cond (eqb body 0) (ascii " earth at ") (ascii " moon at ")

-- ` earth at TIME r D D D v D D D bits X X X X X X`
unfoldable pub flight_pieces : Flight → List (List ℕ)
flight_pieces f =
    about_text f.body
    ∷ signed_text f.time
    ∷ (labelled_pieces (ascii " r") (f.state.rx ∷ f.state.ry ∷ f.state.rz ∷ [])
    ++ (labelled_pieces (ascii " v") (f.state.vx ∷ f.state.vy ∷ f.state.vz ∷ [])
    ++ end_pieces (f.state.rx ∷ f.state.ry ∷ f.state.rz ∷ f.state.vx ∷ f.state.vy ∷ f.state.vz ∷ [])))

unfoldable pub where_pieces : Option Flight → List (List ℕ)
where_pieces None = ascii " unset\n" ∷ []
where_pieces (Some f) = flight_pieces f

-- `vehicle V unset`, or `vehicle V` and where it is
unfoldable pub vehicle_pieces : ℕ → Option Flight → List (List ℕ)
vehicle_pieces n x = ascii "vehicle " ∷ decimal n ∷ where_pieces x
