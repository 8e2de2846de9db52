-- The line that the desk gives for a reason, piece by piece. Assumes nothing: these are definitions.
use Rattle.std.specs.Prelude.{ℕ, List, [], ◌∷◌, ◌++◌, ℤ, Float}
use Rattle.refusal.specs.Refusals.{number_of}
use Rattle.text.specs.Text.{ascii, decimal, signed_text}
use Rattle.columns.specs.Rows.{labelled_pieces, refused_pieces}
use Rattle.columns.specs.Rows as Rows
use Rattle.brackets.specs.Brackets.{bracket_end_pieces, stopped_pieces}
use Rattle.ends.specs.Ends.{amiss_pieces}
use Rattle.limits.specs.Limits.{failed_pieces}
use Rattle.table.specs.declared.Entry.{Entry as EntryOf}
use Rattle.iterator.specs.declared.Bracket.{Bracket}
use Rattle.reason.specs.declared.Stop.{Stop as StopOf}
use Rattle.reason.specs.declared.Reason.{Reason as ReasonOf}
use Rattle.reason.specs.Reasons.{Reason}
use Rattle.reason.specs.declared.Stop.TheVariants as S
use Rattle.reason.specs.declared.Neighbours.{Neighbours}
use Rattle.reason.specs.declared.Reason.TheVariants as R

-- `refused N`, a word, `NAME D must be LIMIT bits X`
unfoldable pub test_pieces : {R : Type 0} → (R → ℕ) → List ℕ → EntryOf R → List (List ℕ)
test_pieces number word e = ascii "refused " ∷ decimal (number e.refusal) ∷ word ∷ (failed_pieces e ++ (ascii "\n" ∷ []))

-- ---- neighbours of which one has no time

abbrev pub stop_pieces : {R : Type 0} → StopOf R → List (List ℕ)
stop_pieces S.EndOfGrid = ascii "end of grid" ∷ []
stop_pieces (S.Test e) = failed_pieces e

-- ` because STOP`
unfoldable pub because_pieces : {R : Type 0} → StopOf R → List (List ℕ)
because_pieces s = ascii " because " ∷ (stop_pieces s ++ (ascii "\n" ∷ []))

-- `.. lo N JLO hi N JHI count K because STOP`
unfoldable pub neighbour_pieces : {R : Type 0} → List ℕ → Bracket → StopOf R → List (List ℕ)
neighbour_pieces lo b s =
    lo ∷ (bracket_end_pieces b.lo b.below
    ++ (ascii " hi" ∷ (bracket_end_pieces b.hi b.above ++ (ascii " count " ∷ decimal b.count ∷ because_pieces s))))

-- ---- neighbours that both have their time

-- an end's place, ` time D`
unfoldable pub timed_pieces : List ℕ → ℤ → Float → List (List ℕ)
timed_pieces end n t = end ∷ signed_text n ∷ labelled_pieces (ascii " time") (t ∷ [])

-- `solved lo N time D hi N time D count K bits X X`
unfoldable pub between_pieces : Neighbours → List (List ℕ)
between_pieces n =
    timed_pieces (ascii "solved lo ") n.lo n.below
    ++ (timed_pieces (ascii " hi ") n.hi n.above ++ (ascii " count " ∷ decimal n.count ∷ Rows.end_pieces (n.below ∷ n.above ∷ [])))

-- ---- each reason

abbrev pub reason_pieces_by : {R : Type 0} → (R → ℕ) → ReasonOf R → List (List ℕ)
reason_pieces_by number (R.Test e) = test_pieces number (ascii " ") e
reason_pieces_by number (R.Amiss a) = amiss_pieces a
reason_pieces_by number (R.TooShort b s) = neighbour_pieces (ascii "refused 8 lo") b s
reason_pieces_by number (R.TooLong b s) = neighbour_pieces (ascii "refused 7 lo") b s
reason_pieces_by number (R.Range e) = test_pieces number (ascii " because ") e
reason_pieces_by number (R.NotFinished b) = stopped_pieces b
reason_pieces_by number (R.Settings n) = refused_pieces (number n)
reason_pieces_by number (R.Between n) = between_pieces n
reason_pieces_by number R.Solved = ascii "solved\n" ∷ []

-- of a solve's own refusals
abbrev pub reason_pieces : Reason → List (List ℕ)
reason_pieces r = reason_pieces_by number_of r
