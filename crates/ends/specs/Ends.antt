-- What is amiss with a bracket to go on from, as a line. Assumes nothing: these are definitions.
use Rattle.std.specs.Prelude.{ℕ, List, [], ◌∷◌, ◌++◌, ℤ}
use Rattle.text.specs.Text.{ascii, decimal, signed_text}
use Rattle.brackets.specs.Brackets.{judgement_pieces}
use Rattle.iterator.specs.declared.Judgement.{Judgement}
use Rattle.reason.specs.declared.Amiss.{Amiss}
use Rattle.reason.specs.declared.Amiss.TheVariants.{LoOffGrid, HiOffGrid, LoNotUnderHi, LoMisjudged, HiMisjudged, LoNotBelow, HiNotAbove, CountOver}

-- an end's place, and what is amiss with it
unfoldable pub place_pieces : List ℕ → ℤ → List ℕ → List (List ℕ)
place_pieces end n must = end ∷ signed_text n ∷ must ∷ []

-- the judgement that it must have
unfoldable pub misjudged_pieces : List ℕ → ℤ → Judgement → List (List ℕ)
misjudged_pieces end n j = end ∷ signed_text n ∷ ascii " must be " ∷ (judgement_pieces j ++ (ascii "\n" ∷ []))

unfoldable pub over_pieces : ℕ → ℕ → List (List ℕ)
over_pieces count most = ascii "refused 6 count " ∷ decimal count ∷ ascii " must be at most " ∷ decimal most ∷ ascii "\n" ∷ []

abbrev pub amiss_pieces : Amiss → List (List ℕ)
amiss_pieces (LoOffGrid n) = place_pieces (ascii "refused 6 lo ") n (ascii " must be on the grid\n")
amiss_pieces (HiOffGrid n) = place_pieces (ascii "refused 6 hi ") n (ascii " must be on the grid\n")
amiss_pieces (LoNotUnderHi n) = place_pieces (ascii "refused 6 lo ") n (ascii " must be under hi\n")
amiss_pieces (LoMisjudged n j) = misjudged_pieces (ascii "refused 6 lo ") n j
amiss_pieces (HiMisjudged n j) = misjudged_pieces (ascii "refused 6 hi ") n j
amiss_pieces (LoNotBelow n) = place_pieces (ascii "refused 6 lo ") n (ascii " must be low or under\n")
amiss_pieces (HiNotAbove n) = place_pieces (ascii "refused 6 hi ") n (ascii " must be high or over\n")
amiss_pieces (CountOver count most) = over_pieces count most
