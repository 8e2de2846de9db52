-- What a part of the input leaves: the line's room, the session, and where the program stands. Assumes nothing: these are
-- definitions.
use Rattle.std.specs.Prelude.{ℕ, ◌≤◌, ◌≡◌, List, length, take, Err, None, Ok, Option, Result, Some}
use Rattle.split.specs.Split.{Rows, rows_from}
use Rattle.refusal.specs.Refusals.{number_of}
use Rattle.book.specs.declared.Ended.{Ended as EndedOf}
use Rattle.book.specs.Book.{progress_over_by, written_over_by}
use Rattle.write.specs.declared.State.{State}

-- what is kept lies within the room of the line, and the records within that of the session
abbrev pub Inside : Result State (EndedOf ℕ) → ℕ → ℕ → Type 0
Inside (Ok x) size wide = (x.kept ≤ size) × (x.progress.at ≤ wide)
Inside (Err e) size wide = Unit {0}

abbrev pub Holds : Option State → ℕ → ℕ → Type 0
Holds (Some x) size wide = (x.kept ≤ size) × (x.progress.at ≤ wide)
Holds None size wide = Unit {0}

-- the lines that end in the part s, behind the k bytes kept in the room l
abbrev pub rows_of : List ℕ → List ℕ → ℕ → Rows
rows_of s l k = rows_from (length l) (take k l) s

-- they are entered into the session d, which makes e, and the room keeps what is behind them; or one of them ends it
abbrev pub Feeds : List ℕ → List ℕ → State → List ℕ → List ℕ → List ℕ → Result State (EndedOf ℕ) → Type 0
Feeds s l x d m e (Ok y) =
    (progress_over_by number_of (rows_of s l x.kept).lines d (Ok x.progress) ≡ Ok y.progress) × (e ≡ written_over_by number_of (rows_of s l x.kept).lines d (Ok x.progress))
    × (take y.kept m ≡ (rows_of s l x.kept).kept)
Feeds s l x d m e (Err t) = progress_over_by number_of (rows_of s l x.kept).lines d (Ok x.progress) ≡ Err t
