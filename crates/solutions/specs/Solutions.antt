-- The iterated solves' answers as lines, piece by piece: decimals for people, then `bits` and the same numbers exactly; a
-- refusal by its number. Assumes nothing: these are definitions.
use Rattle.std.specs.Prelude.{ℕ, List, [], ◌∷◌, ◌++◌, ℤ, Float}
use Rattle.refusal.specs.Refusals.{number_of}
use Rattle.text.specs.Text.{ascii, decimal, signed_text}
use Rattle.columns.specs.Rows.{labelled_pieces, end_pieces, refused_pieces}
use Rattle.brackets.specs.Brackets.{stopped_pieces}
use Rattle.vector.specs.declared.Vector.{Vector}
use Rattle.vector.specs.declared.State.{State}
use Rattle.solve.specs.Answers.{Advanced, Transferred, advanced_number, transferred_number}
use Rattle.solve.specs.declared.Grade.{Grade}
use Rattle.solve.specs.declared.Grade.TheVariants.{Closed, Fair, Rough}
use Rattle.solve.specs.declared.Solution.{Solution}
use Rattle.solve.specs.declared.Advanced.{Advanced as AdvancedOf}
use Rattle.solve.specs.declared.Advanced.TheVariants as Ad
use Rattle.solve.specs.declared.Transferred.{Transferred as TransferredOf}
use Rattle.solve.specs.declared.Transferred.TheVariants as Tr

abbrev pub grade_text : Grade → List ℕ
grade_text Closed = ascii "closed"
grade_text Fair = ascii "fair"
grade_text Rough = ascii "rough"

-- `done n N count K`
unfoldable pub count_pieces : ℤ → ℕ → List (List ℕ)
count_pieces n count = ascii "done n " ∷ signed_text n ∷ ascii " count " ∷ decimal count ∷ []

-- ` time D err D`
unfoldable pub times_pieces : Float → Float → List (List ℕ)
times_pieces t err = labelled_pieces (ascii " time") (t ∷ []) ++ labelled_pieces (ascii " err") (err ∷ [])

-- ` grade G time D err D`
unfoldable pub graded_pieces : Solution → List (List ℕ)
graded_pieces x = ascii " grade " ∷ grade_text x.grade ∷ times_pieces x.t x.err

-- `done n N count K grade G time D err D`
unfoldable pub done_pieces : Solution → List (List ℕ)
done_pieces x = count_pieces x.n x.count ++ graded_pieces x

-- `done n N count K turns W grade G time D err D`
unfoldable pub turned_pieces : Solution → ℕ → List (List ℕ)
turned_pieces x turns = count_pieces x.n x.count ++ (ascii " turns " ∷ decimal turns ∷ graded_pieces x)

-- ` v D D D`
abbrev pub velocity_pieces : Float → Float → Float → List (List ℕ)
velocity_pieces x y z = labelled_pieces (ascii " v") (x ∷ y ∷ z ∷ [])

-- `done .. r D D D v D D D bits X X X X X X X X`
unfoldable pub orbit_pieces : State → Solution → ℕ → List (List ℕ)
orbit_pieces s x turns =
    turned_pieces x turns
    ++ (labelled_pieces (ascii " r") (s.rx ∷ s.ry ∷ s.rz ∷ [])
    ++ (velocity_pieces s.vx s.vy s.vz
    ++ end_pieces (x.t ∷ x.err ∷ s.rx ∷ s.ry ∷ s.rz ∷ s.vx ∷ s.vy ∷ s.vz ∷ [])))

-- `done .. v D D D bits X X X X X`
unfoldable pub transfer_pieces : Vector → Solution → List (List ℕ)
transfer_pieces v x = done_pieces x ++ (velocity_pieces v.x v.y v.z ++ end_pieces (x.t ∷ x.err ∷ v.x ∷ v.y ∷ v.z ∷ []))

-- ---- each answer

-- whatever its refusal is, by the number of that
abbrev pub advanced_pieces_by : {R : Type 0} → (R → ℕ) → AdvancedOf R → List (List ℕ)
advanced_pieces_by number (Ad.Found s x turns) = orbit_pieces s x turns
advanced_pieces_by number Ad.TooLong = refused_pieces (advanced_number Ad.TooLong)
advanced_pieces_by number (Ad.NotFinished b) = stopped_pieces b
advanced_pieces_by number (Ad.Refused n) = refused_pieces (number n)

abbrev pub transferred_pieces_by : {R : Type 0} → (R → ℕ) → TransferredOf R → List (List ℕ)
transferred_pieces_by number (Tr.Found v x) = transfer_pieces v x
transferred_pieces_by number Tr.TooLong = refused_pieces (transferred_number Tr.TooLong)
transferred_pieces_by number Tr.TooShort = refused_pieces (transferred_number Tr.TooShort)
transferred_pieces_by number (Tr.NotFinished b) = stopped_pieces b
transferred_pieces_by number (Tr.Refused n) = refused_pieces (number n)

abbrev pub advanced_pieces : Advanced → List (List ℕ)
advanced_pieces a = advanced_pieces_by number_of a

abbrev pub transferred_pieces : Transferred → List (List ℕ)
transferred_pieces a = transferred_pieces_by number_of a
