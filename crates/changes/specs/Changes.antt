-- The answer of the constant-height burn as a line, piece by piece. Assumes nothing: these are definitions.
use Rattle.std.specs.Prelude.{ℕ, List, [], ◌∷◌, ◌++◌, Float, Result, Ok, Err}
use Rattle.refusal.specs.declared.Refusal.{Refusal}
use Rattle.refusal.specs.Refusals.{number_of}
use Rattle.text.specs.Text.{ascii}
use Rattle.columns.specs.Rows.{labelled_pieces, end_pieces, refused_pieces}
use Rattle.vector.specs.declared.Vector.{Vector}
use Rattle.burn.specs.declared.Burn.{Burn}
use Rattle.burn.specs.declared.Burn.TheVariants.{Closed, Open}

-- `change D D D closed near D far D bits X X X X X`
unfoldable pub closed_pieces : Vector → Float → Float → List (List ℕ)
closed_pieces d near far =
    labelled_pieces (ascii "change") (d.x ∷ d.y ∷ d.z ∷ [])
    ++ (labelled_pieces (ascii " closed near") (near ∷ [])
    ++ (labelled_pieces (ascii " far") (far ∷ []) ++ end_pieces (d.x ∷ d.y ∷ d.z ∷ near ∷ far ∷ [])))

-- `change D D D open near D bits X X X X`
unfoldable pub open_pieces : Vector → Float → List (List ℕ)
open_pieces d near =
    labelled_pieces (ascii "change") (d.x ∷ d.y ∷ d.z ∷ [])
    ++ (labelled_pieces (ascii " open near") (near ∷ []) ++ end_pieces (d.x ∷ d.y ∷ d.z ∷ near ∷ []))

abbrev pub change_pieces : Burn → List (List ℕ)
change_pieces (Closed d near far) = closed_pieces d near far
change_pieces (Open d near) = open_pieces d near

-- an answer, whatever its refusal is, by the number of that
abbrev pub burn_pieces_by : {R : Type 0} → (R → ℕ) → Result Burn R → List (List ℕ)
burn_pieces_by number (Ok b) = change_pieces b
burn_pieces_by number (Err r) = refused_pieces (number r)

abbrev pub burn_pieces : Result Burn Refusal → List (List ℕ)
burn_pieces a = burn_pieces_by number_of a
