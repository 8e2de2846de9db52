-- A bracket as text, as it can be put behind a request: its ends with their judgements, times as bits, and the count. Assumes nothing:
-- these are definitions.
use Rattle.std.specs.Prelude.{ℕ, List, [], ◌∷◌, ◌++◌, ℤ}
use Rattle.text.specs.Text.{ascii, decimal, signed_text}
use Rattle.figures.specs.Figures.{bits_text}
use Rattle.iterator.specs.declared.Judgement.{Judgement}
use Rattle.iterator.specs.declared.Judgement.TheVariants.{Low, High, Under, Over}
use Rattle.iterator.specs.declared.Bracket.{Bracket}

-- `low:X`, `high:X`, `under`, `over`
unfoldable pub judgement_pieces : Judgement → List (List ℕ)
judgement_pieces (Low t) = ascii "low:" ∷ bits_text t ∷ []
judgement_pieces (High t) = ascii "high:" ∷ bits_text t ∷ []
judgement_pieces Under = ascii "under" ∷ []
judgement_pieces Over = ascii "over" ∷ []

-- ` N J`
unfoldable pub bracket_end_pieces : ℤ → Judgement → List (List ℕ)
bracket_end_pieces n j = ascii " " ∷ signed_text n ∷ ascii " " ∷ judgement_pieces j

-- ` from LO JLO HI JHI COUNT`
unfoldable pub from_pieces : Bracket → List (List ℕ)
from_pieces b = ascii " from" ∷ (bracket_end_pieces b.lo b.below ++ (bracket_end_pieces b.hi b.above ++ (ascii " " ∷ decimal b.count ∷ [])))

-- `refused 29 from LO JLO HI JHI COUNT`
unfoldable pub stopped_pieces : Bracket → List (List ℕ)
stopped_pieces b = ascii "refused 29" ∷ (from_pieces b ++ (ascii "\n" ∷ []))
