-- Every line fits 512 bytes. Assumes nothing.
use Prim.Native.Nat.{ℕ, ◌≤◌}
use native.Mathlib.Omega.{arith}
use mathlib.Core.List.{[], ◌∷◌}
use lib.ListN.{length, length-append}
use lib.Dec.{lit≤}
use lib.IntN.{ℤ}
use lib.Ieee.{Float}
use Rattle.refusal.specs.Refusals.{number_of}
use Rattle.text.specs.Text.{ascii}
use Rattle.text.specs.Pieces.{concat}
use Rattle.text.proofs.Decimals.{at_most}
use Rattle.text.proofs.Signs.{signed-short}
use Rattle.text.proofs.Lays.{size, concat-append}
use Rattle.columns.proofs.RowLaws.{end_short, labelled-short, refused-fits}
use Rattle.brackets.proofs.Lengths.{stopped-fits}
use Rattle.vector.specs.declared.Vector.{Vector}
use Rattle.vector.specs.declared.State.{State}
use Rattle.solve.specs.Answers.{Advanced, Transferred, advanced_number, transferred_number}
use Rattle.solve.specs.declared.Grade.{Grade}
use Rattle.solve.specs.declared.Grade.TheVariants.{Closed, Fair, Rough}
use Rattle.solve.specs.declared.Solution.{Solution}
use Rattle.solve.specs.declared.Advanced.{Advanced as AdvancedOf}
use Rattle.solve.specs.declared.Advanced.TheVariants as Ad
use Rattle.solve.specs.declared.Transferred.{Transferred as TransferredOf}
use Rattle.solve.specs.declared.Transferred.TheVariants as Tr
use Rattle.solutions.specs.Solutions.{grade_text, count_pieces, times_pieces, graded_pieces, done_pieces, turned_pieces, orbit_pieces, transfer_pieces, advanced_pieces_by, transferred_pieces_by, advanced_pieces, transferred_pieces}

grade-short : (g : Grade) → length (grade_text g) ≤ 6
grade-short Closed = lit≤ tt
grade-short Fair = lit≤ tt
grade-short Rough = lit≤ tt

count-short : (n : ℤ) (k : ℕ) → size (count_pieces n k) ≤ 55
unfolding concat count_pieces
count-short n k = simp length-append (omega (arith, signed-short n, at_most 20 k))

times-short : (t err : Float) → size (times_pieces t err) ≤ 53
unfolding times_pieces
times-short t err = simp (concat-append, length-append) (omega (arith, labelled-short (ascii " time") (t ∷ []), labelled-short (ascii " err") (err ∷ [])))

graded-short : (x : Solution) → size (graded_pieces x) ≤ 66
unfolding concat graded_pieces
graded-short x = simp length-append (omega (arith, grade-short x.grade, times-short x.t x.err))

done-short : (x : Solution) → size (done_pieces x) ≤ 121
unfolding done_pieces
done-short x = simp (concat-append, length-append) (omega (arith, count-short x.n x.count, graded-short x))

turned-short : (x : Solution) (turns : ℕ) → size (turned_pieces x turns) ≤ 148
unfolding concat turned_pieces
turned-short x turns = simp (concat-append, length-append) (omega (arith, count-short x.n x.count, at_most 20 turns, graded-short x))

orbit-short : (s : State) (x : Solution) (turns : ℕ) → size (orbit_pieces s x turns) ≤ 512
unfolding orbit_pieces
orbit-short s x turns =
    simp (concat-append, length-append) (
    omega (
      arith,
      turned-short x turns,
      labelled-short (ascii " r") (s.rx ∷ s.ry ∷ s.rz ∷ []),
      labelled-short (ascii " v") (s.vx ∷ s.vy ∷ s.vz ∷ []),
      end_short (x.t ∷ x.err ∷ s.rx ∷ s.ry ∷ s.rz ∷ s.vx ∷ s.vy ∷ s.vz ∷ []),
    )
    )

transfer-short : (v : Vector) (x : Solution) → size (transfer_pieces v x) ≤ 512
unfolding transfer_pieces
transfer-short v x =
    simp (concat-append, length-append) (
    omega (arith, done-short x, labelled-short (ascii " v") (v.x ∷ v.y ∷ v.z ∷ []), end_short (x.t ∷ x.err ∷ v.x ∷ v.y ∷ v.z ∷ []))
    )

-- ---- each answer

pub advanced-by-fits : {R : Type 0} (number : R → ℕ) (a : AdvancedOf R) → size (advanced_pieces_by number a) ≤ 512
advanced-by-fits number (Ad.Found s x turns) = orbit-short s x turns
advanced-by-fits number Ad.TooLong = refused-fits (advanced_number Ad.TooLong)
advanced-by-fits number (Ad.NotFinished b) = stopped-fits b
advanced-by-fits number (Ad.Refused n) = refused-fits (number n)

pub transferred-by-fits : {R : Type 0} (number : R → ℕ) (a : TransferredOf R) → size (transferred_pieces_by number a) ≤ 512
transferred-by-fits number (Tr.Found v x) = transfer-short v x
transferred-by-fits number Tr.TooLong = refused-fits (transferred_number Tr.TooLong)
transferred-by-fits number Tr.TooShort = refused-fits (transferred_number Tr.TooShort)
transferred-by-fits number (Tr.NotFinished b) = stopped-fits b
transferred-by-fits number (Tr.Refused n) = refused-fits (number n)

pub advanced-fits : (a : Advanced) → size (advanced_pieces a) ≤ 512
advanced-fits a = advanced-by-fits number_of a

pub transferred-fits : (a : Transferred) → size (transferred_pieces a) ≤ 512
transferred-fits a = transferred-by-fits number_of a
