-- The other routines' answers as lines, piece by piece: decimals for people, then `bits` and the same numbers exactly; a
-- refusal by its number. Assumes nothing: these are definitions.
use Rattle.refusal.specs.declared.Refusal.{Refusal}
use Rattle.refusal.specs.Refusals.{number_of}
use Rattle.std.specs.Prelude.{ℕ, List, [], ◌∷◌, ◌++◌, ℤ, Float, Err, Ok, Result}
use Rattle.text.specs.Text.{ascii, signed_text}
use Rattle.columns.specs.Rows.{labelled_pieces, end_pieces, refused_pieces}
use Rattle.iterator.specs.Single.{Tried}
use Rattle.iterator.specs.declared.Tried.{Tried as TriedOf}
use Rattle.iterator.specs.declared.Tried.TheVariants as T
use Rattle.theta.specs.Theta as Theta
use Rattle.theta.specs.Theta.{TransferTime}
use Rattle.theta.specs.declared.TransferTime.{TransferTime as TransferTimeOf}
use Rattle.theta.specs.declared.TransferTime.TheVariants as Ti
use Rattle.apsides.specs.Apsides.{Apsides}
use Rattle.apsides.specs.declared.Apsides.{Apsides as ApsidesOf}
use Rattle.apsides.specs.declared.Apsides.TheVariants as Ap

-- `NAME D bits X`
unfoldable pub one_pieces : List ℕ → Float → List (List ℕ)
one_pieces name x = labelled_pieces name (x ∷ []) ++ end_pieces (x ∷ [])

-- `closed near D far D bits X X`
unfoldable pub closed_pieces : Float → Float → List (List ℕ)
closed_pieces near far = labelled_pieces (ascii "closed near") (near ∷ []) ++ (labelled_pieces (ascii " far") (far ∷ []) ++ end_pieces (near ∷ far ∷ []))

-- `point N`
unfoldable pub point_pieces : ℤ → List (List ℕ)
point_pieces n = ascii "point " ∷ signed_text n ∷ ascii "\n" ∷ []

abbrev pub none_pieces : List (List ℕ)
none_pieces = ascii "none\n" ∷ []

-- ---- each answer, whose refusals have these numbers

-- `value D bits X`
abbrev pub answer_pieces_by : {R : Type 0} → (R → ℕ) → Result Float R → List (List ℕ)
answer_pieces_by number (Ok x) = one_pieces (ascii "value") x
answer_pieces_by number (Err n) = refused_pieces (number n)

abbrev pub tried_pieces_by : {R : Type 0} → (R → ℕ) → TriedOf R → List (List ℕ)
tried_pieces_by number (T.Point n) = point_pieces n
tried_pieces_by number T.NoneLeft = none_pieces
tried_pieces_by number (T.Refused n) = refused_pieces (number n)

-- `time D bits X`
abbrev pub timed_pieces_by : {R : Type 0} → (R → ℕ) → TransferTimeOf R → List (List ℕ)
timed_pieces_by number (Ti.Time x) = one_pieces (ascii "time") x.time
timed_pieces_by number Ti.TooLong = refused_pieces (Theta.transfer_time_number Ti.TooLong)
timed_pieces_by number Ti.TooShort = refused_pieces (Theta.transfer_time_number Ti.TooShort)
timed_pieces_by number (Ti.Refused n) = refused_pieces (number n)

-- `closed near D far D bits X X`, `open near D bits X`
abbrev pub apsides_pieces_by : {R : Type 0} → (R → ℕ) → ApsidesOf R → List (List ℕ)
apsides_pieces_by number (Ap.Closed near far) = closed_pieces near far
apsides_pieces_by number (Ap.Open near) = one_pieces (ascii "open near") near
apsides_pieces_by number (Ap.Refused n) = refused_pieces (number n)

-- ---- each answer, whose refusal is a case of `Refusal`

abbrev pub answer_pieces : Result Float Refusal → List (List ℕ)
answer_pieces a = answer_pieces_by number_of a

abbrev pub tried_pieces : Tried → List (List ℕ)
tried_pieces a = tried_pieces_by number_of a

abbrev pub timed_pieces : TransferTime → List (List ℕ)
timed_pieces a = timed_pieces_by number_of a

abbrev pub apsides_pieces : Apsides → List (List ℕ)
apsides_pieces a = apsides_pieces_by number_of a
