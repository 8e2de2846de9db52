-- The settings' versions as lines, piece by piece. Assumes nothing: these are definitions.
use Rattle.refusal.specs.declared.Refusal.{Refusal}
use Rattle.refusal.specs.Refusals.{number_of}
use Rattle.std.specs.Prelude.{ℕ, zero, suc, cond, List, [], ◌∷◌, ◌++◌, eqb, Err, Ok, Result}
use Rattle.text.specs.Text.{ascii, decimal}
use Rattle.text.specs.Pieces.{concat}
use Rattle.columns.specs.Rows.{labelled_pieces, end_pieces, refused_pieces}
use Rattle.settings.specs.declared.allowed.Setting.{Setting}
use Rattle.settings.specs.History.{look_up}

-- ` mu D radius D closed D fair D bits X X X X`
unfoldable pub constant_pieces : Setting → List (List ℕ)
constant_pieces x =
    labelled_pieces (ascii " mu") (x.mu ∷ [])
    ++ (labelled_pieces (ascii " radius") (x.radius ∷ [])
    ++ (labelled_pieces (ascii " closed") (x.closed ∷ [])
    ++ (labelled_pieces (ascii " fair") (x.fair ∷ []) ++ end_pieces (x.mu ∷ x.radius ∷ x.closed ∷ x.fair ∷ []))))

-- `version K body B` and its constants
unfoldable pub version_pieces : ℕ → Setting → List (List ℕ)
version_pieces k x = ascii "version " ∷ decimal k ∷ ascii " body " ∷ decimal x.body ∷ constant_pieces x

-- version k, or `refused N`
abbrev pub looked_pieces : ℕ → Result Setting Refusal → List (List ℕ)
looked_pieces k (Ok x) = version_pieces k x
looked_pieces k (Err n) = refused_pieces (number_of n)

abbrev pub show_room : ℕ
show_room = 512

abbrev pub show_text : List ℕ → ℕ → List ℕ
show_text s k = concat (looked_pieces k (look_up s k))

-- a version that is found, and those behind it
abbrev pub found_then : Result Setting Refusal → ℕ → List (List ℕ) → List (List ℕ)
found_then (Ok x) k rest = version_pieces k x ++ rest
found_then (Err n) k rest = []

-- at most n versions, from version k on
unfoldable pub version_lines : ℕ → ℕ → List ℕ → List (List ℕ)
version_lines zero k s = []
version_lines (suc n) k s = found_then (look_up s k) k (version_lines n (suc k) s)

-- a line a version; no line where there is no version; the line of the refusal where the used part is refused
unfoldable pub list_by : Result Setting Refusal → List ℕ → List (List ℕ)
list_by (Ok x) s = version_lines 64 1 s
list_by (Err n) s = cond (eqb (number_of n) 23) [] (refused_pieces (number_of n))

abbrev pub list_pieces : List ℕ → List (List ℕ)
list_pieces s = list_by (look_up s 1) s

abbrev pub list_room : ℕ
list_room = 16384

abbrev pub list_text : List ℕ → List ℕ
list_text s = concat (list_pieces s)
