-- The lines of an input, and what a room of some size keeps of them. Assumes nothing: these are definitions.
use Rattle.std.specs.Prelude.{ℕ, ◌+◌, ◌-◌, List, [], ◌∷◌, ◌++◌, Bool, true, false, cond, length, take, drop, ltb, eqb}
use Rattle.split.specs.declared.Found.{Found}
use Rattle.split.specs.declared.Found.TheVariants.{Line, Kept}

-- the lines that end, in their order, and the front of one that does not
pub record Rows : Type 0 where
  pub lines : List (List ℕ)
  pub kept : List ℕ

abbrev pub line_ended : Bool → List ℕ → Rows → Rows
line_ended true kept x = record { lines = kept ∷ x.lines; kept = x.kept }
line_ended false kept x = x

abbrev pub grown : Bool → ℕ → List ℕ → ℕ → List ℕ
grown true cap kept b = []
grown false cap kept b = take cap (kept ++ (b ∷ []))

-- s behind the kept front of a line, byte by byte; of each line no more than `cap` bytes are kept
unfoldable pub rows_from : ℕ → List ℕ → List ℕ → Rows
rows_from cap kept [] = record { lines = []; kept = kept }
rows_from cap kept (b ∷ s) = line_ended (eqb b 10) kept (rows_from cap (grown (eqb b 10) cap kept b) s)

abbrev pub joined : List (List ℕ) → Rows → Rows
joined ls x = record { lines = ls ++ x.lines; kept = x.kept }

-- part after part
unfoldable pub parts_from : ℕ → List ℕ → List (List ℕ) → Rows
parts_from cap kept [] = record { lines = []; kept = kept }
parts_from cap kept (p ∷ ps) = joined (rows_from cap kept p).lines (parts_from cap (rows_from cap kept p).kept ps)

-- Lines with nothing cut off: what the input is made of.
unfoldable pub lines_from : List ℕ → List ℕ → Rows
lines_from kept [] = record { lines = []; kept = kept }
lines_from kept (b ∷ s) = line_ended (eqb b 10) kept (lines_from (cond (eqb b 10) [] (kept ++ (b ∷ []))) s)

unfoldable pub each_cut : ℕ → List (List ℕ) → List (List ℕ)
each_cut cap [] = []
each_cut cap (l ∷ ls) = take cap l ∷ each_cut cap ls

abbrev pub cut : ℕ → Rows → Rows
cut cap x = record { lines = each_cut cap x.lines; kept = take cap x.kept }

-- each line with its newline, and the rest
unfoldable pub unlines : List (List ℕ) → List ℕ → List ℕ
unlines [] kept = kept
unlines (l ∷ ls) kept = l ++ (10 ∷ unlines ls kept)

-- the bytes ahead of the first newline
unfoldable pub ahead : List ℕ → List ℕ
ahead [] = []
ahead (b ∷ s) = cond (eqb b 10) [] (b ∷ ahead s)

-- what is put into a room behind k bytes
abbrev pub added : List ℕ → ℕ → List ℕ → List ℕ
added d k rest = take (length d - k) (ahead rest)

abbrev pub found_of : List ℕ → ℕ → ℕ → List ℕ → Found
found_of d k from rest =
    cond (ltb (length (ahead rest)) (length rest)) (Line (k + length (added d k rest)) (from + length (ahead rest) + 1))
    (Kept (k + length (added d k rest)))

abbrev pub room_of : List ℕ → ℕ → List ℕ → List ℕ
room_of d k rest = take k d ++ (added d k rest ++ drop (k + length (added d k rest)) d)
