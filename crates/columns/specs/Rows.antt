-- Numbers in a row, a blank before each, and lines of one whole number. Assumes nothing: these are definitions.
use Rattle.std.specs.Prelude.{ℕ, List, [], ◌∷◌, ◌++◌, Float}
use Rattle.text.specs.Text.{ascii, decimal}
use Rattle.figures.specs.Figures.{fixed_of, bits_text}
use Rattle.columns.specs.declared.Style.{Style}
use Rattle.columns.specs.declared.Style.TheVariants.{Places, Bits}

unfoldable pub figure_text : Style → Float → List ℕ
figure_text Places x = fixed_of x
figure_text Bits x = bits_text x

unfoldable pub row_pieces : Style → List Float → List (List ℕ)
row_pieces style [] = []
row_pieces style (x ∷ xs) = ascii " " ∷ figure_text style x ∷ row_pieces style xs

-- what stands behind the decimals: ` bits X ..`
abbrev pub end_pieces : List Float → List (List ℕ)
end_pieces xs = ascii " bits" ∷ (row_pieces Bits xs ++ (ascii "\n" ∷ []))

-- a label, and numbers to six places
abbrev pub labelled_pieces : List ℕ → List Float → List (List ℕ)
labelled_pieces label xs = label ∷ row_pieces Places xs

-- a word, a whole number, and the line's end
unfoldable pub counted_pieces : List ℕ → ℕ → List (List ℕ)
counted_pieces word n = word ∷ decimal n ∷ ascii "\n" ∷ []

abbrev pub refused_pieces : ℕ → List (List ℕ)
refused_pieces n = counted_pieces (ascii "refused ") n

abbrev pub unread_pieces : ℕ → List (List ℕ)
unread_pieces w = counted_pieces (ascii "unread ") w
