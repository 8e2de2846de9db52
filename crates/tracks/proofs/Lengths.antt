-- Every line fits 512 bytes. Assumes nothing.
use Rattle.std.specs.Prelude.{None, Option, Some}
use Prim.Native.Nat.{ℕ, ◌+◌, ◌≤◌}
use native.Mathlib.Omega.{arith}
use mathlib.Core.Bool.{Bool, true, false, cond}
use mathlib.Core.List.{List, [], ◌∷◌, ◌++◌}
use lib.ListN.{length, length-append}
use lib.Dec.{lit≤, eqb}
use lib.IntN.{ℤ}
use lib.Ieee.{Float}
use Rattle.refusal.specs.Refusals.{number_of}
use Rattle.text.specs.Text.{ascii, signed_text}
use Rattle.text.specs.Pieces.{concat}
use Rattle.text.proofs.Decimals.{at_most}
use Rattle.text.proofs.Signs.{signed-short}
use Rattle.text.proofs.Lays.{size, concat-append}
use Rattle.columns.specs.Rows.{labelled_pieces, end_pieces}
use Rattle.columns.proofs.RowLaws.{end_short, labelled-short}
use Rattle.vector.specs.declared.State.{State}
use Rattle.session.specs.declared.record.Kind.{Kind}
use Rattle.session.specs.declared.record.Record.{Record}
use Rattle.session.specs.Layout.{kind_in, vehicle_in, time_in}
use Rattle.lines.specs.Days.{local_of, day_of, cs_of}
use Rattle.lines.specs.Lines.{clock_pieces, stamp_pieces, refused_pieces}
use Rattle.lines.proofs.Sizes.{name-short}
use Rattle.flight.specs.declared.Flight.{Flight}
use Rattle.replay.specs.declared.Answer.{Answer as AnswerOf}
use Rattle.replay.specs.declared.Answer.TheVariants as A
use Rattle.replay.specs.Replay.{Answer}
use Rattle.tracks.specs.Tracks.{heading_pieces, answer_pieces_by, event_pieces_by, record_pieces_by, record_pieces, about_text, flight_pieces, where_pieces, vehicle_pieces}

pub heading-fits : size heading_pieces ≤ 512
unfolding concat heading_pieces
heading-fits = lit≤ tt

pub refused-fits : (n at : ℕ) → size (refused_pieces (ascii "refused ") n at) ≤ 512
unfolding concat refused_pieces
refused-fits n at = simp length-append (omega (arith, at_most 20 n, at_most 20 at))

clock-short : (t : ℤ) → size (clock_pieces t) ≤ 43
unfolding concat clock_pieces
clock-short t = simp length-append (omega (arith, signed-short (day_of t), at_most 20 (cs_of t)))

stamp-short : (t : ℤ) (v : ℕ) (k : Kind) → size (stamp_pieces t v k) ≤ 69
unfolding concat stamp_pieces
stamp-short t v k = simp (concat-append, length-append) (omega (arith, clock-short t, at_most 20 v, name-short k))

off-short : (x : Float) → size (labelled_pieces (ascii " off") (x ∷ []) ++ end_pieces (x ∷ [])) ≤ 100
off-short x = simp (concat-append, length-append) (omega (arith, labelled-short (ascii " off") (x ∷ []), end_short (x ∷ [])))

answer-short : {R : Type 0} (number : R → ℕ) (a : AnswerOf R) → size (answer_pieces_by number a) ≤ 100
unfolding concat answer_pieces_by
answer-short number A.Set = lit≤ tt
answer-short number A.Done = lit≤ tt
answer-short number (A.Off x) = off-short x
answer-short number (A.Refused n) = simp length-append (omega (arith, at_most 20 (number n)))

event-short : {R : Type 0} (number : R → ℕ) (t : ℤ) (v : ℕ) (k : Kind) (a : AnswerOf R) → size (event_pieces_by number t v k a) ≤ 512
unfolding event_pieces_by
event-short number t v k a = simp (concat-append, length-append) (omega (arith, stamp-short t v k, answer-short number a))

pub record-by-fits : {R : Type 0} (number : R → ℕ) (o : ℤ) (r : Record) (a : AnswerOf R) → size (record_pieces_by number o r a) ≤ 512
record-by-fits number o r a = event-short number (local_of (time_in r) o) (vehicle_in r) (kind_in r) a

pub record-fits : (o : ℤ) (r : Record) (a : Answer) → size (record_pieces o r a) ≤ 512
record-fits o r a = record-by-fits number_of o r a

about-short : (b : ℕ) → length (about_text b) ≤ 10
unfolding about_text
about-short b = go (eqb b 0)
  where
    go : (t : Bool) → length (cond t (ascii " earth at ") (ascii " moon at ")) ≤ 10
    go true = lit≤ tt
    go false = lit≤ tt

abbrev numbers : State → List (List ℕ)
numbers s =
    labelled_pieces (ascii " r") (s.rx ∷ s.ry ∷ s.rz ∷ [])
    ++ (labelled_pieces (ascii " v") (s.vx ∷ s.vy ∷ s.vz ∷ [])
    ++ end_pieces (s.rx ∷ s.ry ∷ s.rz ∷ s.vx ∷ s.vy ∷ s.vz ∷ []))

numbers-short : (s : State) → size (numbers s) ≤ 440
numbers-short s =
    simp (concat-append, length-append) (
    omega (
      arith,
      labelled-short (ascii " r") (s.rx ∷ s.ry ∷ s.rz ∷ []),
      labelled-short (ascii " v") (s.vx ∷ s.vy ∷ s.vz ∷ []),
      end_short (s.rx ∷ s.ry ∷ s.rz ∷ s.vx ∷ s.vy ∷ s.vz ∷ []),
    )
    )

front-short : (a b : List ℕ) (xs : List (List ℕ)) → size (a ∷ b ∷ xs) ≤ length a + length b + size xs
unfolding concat
front-short a b xs = simp length-append (omega arith)

flight-short : (f : Flight) → size (flight_pieces f) ≤ 480
unfolding flight_pieces
flight-short f =
    omega (arith, front-short (about_text f.body) (signed_text f.time) (numbers f.state), about-short f.body, signed-short f.time, numbers-short f.state)

where-short : (x : Option Flight) → size (where_pieces x) ≤ 480
unfolding concat where_pieces
where-short None = lit≤ tt
where-short (Some f) = flight-short f

pub vehicle-fits : (n : ℕ) (x : Option Flight) → size (vehicle_pieces n x) ≤ 512
unfolding concat vehicle_pieces
vehicle-fits n x = simp length-append (omega (arith, at_most 20 n, where-short x))
