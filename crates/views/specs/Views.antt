-- The answers of the thumbwheel and of the sight line as lines, piece by piece. Assumes nothing: these are definitions.
use Rattle.refusal.specs.declared.Refusal.{Refusal}
use Rattle.std.specs.Prelude.{ℕ, List, [], ◌∷◌, ◌++◌, Err, Ok, Result}
use Rattle.refusal.specs.Refusals.{number_of}
use Rattle.text.specs.Text.{ascii}
use Rattle.columns.specs.Rows.{labelled_pieces, end_pieces, refused_pieces}
use Rattle.wheel.specs.declared.Direction.{Direction}
use Rattle.sight.specs.declared.Points.{Points}

-- `sine D cosine D bits X X`
unfoldable pub direction_pieces : Direction → List (List ℕ)
direction_pieces d =
    labelled_pieces (ascii "sine") (d.sine ∷ []) ++ (labelled_pieces (ascii " cosine") (d.cosine ∷ []) ++ end_pieces (d.sine ∷ d.cosine ∷ []))

-- `points k D D first D D D second D D D bits X X X X X X X X`
unfoldable pub points_pieces : Points → List (List ℕ)
points_pieces p =
    let f = p.first in
    let s = p.second in
    labelled_pieces (ascii "points k") (p.larger ∷ p.smaller ∷ [])
    ++ (labelled_pieces (ascii " first") (f.x ∷ f.y ∷ f.z ∷ [])
    ++ (labelled_pieces (ascii " second") (s.x ∷ s.y ∷ s.z ∷ [])
    ++ end_pieces (p.larger ∷ p.smaller ∷ f.x ∷ f.y ∷ f.z ∷ s.x ∷ s.y ∷ s.z ∷ [])))

-- an answer, whatever its refusal is, by the number of that
abbrev pub wheel_pieces_by : {R : Type 0} → (R → ℕ) → Result Direction R → List (List ℕ)
wheel_pieces_by number (Ok d) = direction_pieces d
wheel_pieces_by number (Err n) = refused_pieces (number n)

abbrev pub sight_pieces_by : {R : Type 0} → (R → ℕ) → Result Points R → List (List ℕ)
sight_pieces_by number (Ok p) = points_pieces p
sight_pieces_by number (Err n) = refused_pieces (number n)

abbrev pub wheel_pieces : Result Direction Refusal → List (List ℕ)
wheel_pieces a = wheel_pieces_by number_of a

abbrev pub sight_pieces : Result Points Refusal → List (List ℕ)
sight_pieces a = sight_pieces_by number_of a
