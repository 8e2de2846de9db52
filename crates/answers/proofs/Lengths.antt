-- Every line fits 512 bytes. Assumes nothing.
use Rattle.std.specs.Prelude.{Err, Ok, Result}
use Rattle.refusal.specs.declared.Refusal.{Refusal}
use Rattle.refusal.specs.Refusals.{number_of}
use Prim.Native.Nat.{ℕ, ◌+◌, ◌≤◌}
use native.Mathlib.Omega.{arith}
use mathlib.Core.List.{List, [], ◌∷◌}
use lib.ListN.{length, length-append}
use lib.Dec.{lit≤}
use lib.IntN.{ℤ}
use lib.Ieee.{Float}
use Rattle.text.specs.Text.{ascii}
use Rattle.text.specs.Pieces.{concat}
use Rattle.text.proofs.Signs.{signed-short}
use Rattle.text.proofs.Lays.{size, concat-append}
use Rattle.columns.proofs.RowLaws.{end_short, labelled-short, refused-fits}
use Rattle.iterator.specs.Single.{Tried}
use Rattle.iterator.specs.declared.Tried.{Tried as TriedOf}
use Rattle.iterator.specs.declared.Tried.TheVariants as T
use Rattle.theta.specs.Theta as Theta
use Rattle.theta.specs.Theta.{TransferTime}
use Rattle.theta.specs.declared.TransferTime.{TransferTime as TransferTimeOf}
use Rattle.theta.specs.declared.TransferTime.TheVariants as Ti
use Rattle.apsides.specs.Apsides.{Apsides}
use Rattle.apsides.specs.declared.Apsides.{Apsides as ApsidesOf}
use Rattle.apsides.specs.declared.Apsides.TheVariants as Ap
use Rattle.answers.specs.Answers.{one_pieces, closed_pieces, point_pieces, answer_pieces_by, tried_pieces_by, timed_pieces_by, apsides_pieces_by, answer_pieces, tried_pieces, timed_pieces, apsides_pieces}

one-short : (name : List ℕ) (x : Float) → size (one_pieces name x) ≤ length name + 46
unfolding one_pieces
one-short name x = simp (concat-append, length-append) (omega (arith, labelled-short name (x ∷ []), end_short (x ∷ [])))

closed-short : (near far : Float) → size (closed_pieces near far) ≤ 101
unfolding closed_pieces
closed-short near far =
    simp (concat-append, length-append) (omega (arith, labelled-short (ascii "closed near") (near ∷ []), labelled-short (ascii " far") (far ∷ []), end_short (near ∷ far ∷ [])))

point-short : (n : ℤ) → size (point_pieces n) ≤ 28
unfolding concat point_pieces
point-short n = simp length-append (omega (arith, signed-short n))

-- ---- each routine's answer, whatever its refusal's number

pub answer-by-fits : {R : Type 0} (number : R → ℕ) (a : Result Float R) → size (answer_pieces_by number a) ≤ 512
answer-by-fits number (Ok x) = omega (arith, one-short (ascii "value") x)
answer-by-fits number (Err n) = refused-fits (number n)

pub tried-by-fits : {R : Type 0} (number : R → ℕ) (a : TriedOf R) → size (tried_pieces_by number a) ≤ 512
unfolding concat
tried-by-fits number (T.Point n) = omega (arith, point-short n)
tried-by-fits number T.NoneLeft = lit≤ tt
tried-by-fits number (T.Refused n) = refused-fits (number n)

pub timed-by-fits : {R : Type 0} (number : R → ℕ) (a : TransferTimeOf R) → size (timed_pieces_by number a) ≤ 512
timed-by-fits number (Ti.Time x) = omega (arith, one-short (ascii "time") x.time)
timed-by-fits number Ti.TooLong = refused-fits (Theta.transfer_time_number Ti.TooLong)
timed-by-fits number Ti.TooShort = refused-fits (Theta.transfer_time_number Ti.TooShort)
timed-by-fits number (Ti.Refused n) = refused-fits (number n)

pub apsides-by-fits : {R : Type 0} (number : R → ℕ) (a : ApsidesOf R) → size (apsides_pieces_by number a) ≤ 512
apsides-by-fits number (Ap.Closed near far) = omega (arith, closed-short near far)
apsides-by-fits number (Ap.Open near) = omega (arith, one-short (ascii "open near") near)
apsides-by-fits number (Ap.Refused n) = refused-fits (number n)

pub answer-fits : (a : Result Float Refusal) → size (answer_pieces a) ≤ 512
answer-fits a = answer-by-fits number_of a

pub tried-fits : (a : Tried) → size (tried_pieces a) ≤ 512
tried-fits a = tried-by-fits number_of a

pub timed-fits : (a : TransferTime) → size (timed_pieces a) ≤ 512
timed-fits a = timed-by-fits number_of a

pub apsides-fits : (a : Apsides) → size (apsides_pieces a) ≤ 512
apsides-fits a = apsides-by-fits number_of a
