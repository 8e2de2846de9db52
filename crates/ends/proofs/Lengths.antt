-- How long an end is, and that every line fits 512 bytes. Assumes nothing.
use Prim.Native.Nat.{ℕ, ◌+◌, ◌≤◌}
use native.Mathlib.Omega.{arith}
use mathlib.Core.List.{List}
use lib.ListN.{length, length-append}
use lib.IntN.{ℤ}
use Rattle.brackets.proofs.Lengths.{judgement-short}
use Rattle.text.specs.Text.{ascii}
use Rattle.text.specs.Pieces.{concat}
use Rattle.text.proofs.Decimals.{at_most}
use Rattle.text.proofs.Signs.{signed-short}
use Rattle.text.proofs.Lays.{size, concat-append}
use Rattle.iterator.specs.declared.Judgement.{Judgement}
use Rattle.reason.specs.declared.Amiss.{Amiss}
use Rattle.reason.specs.declared.Amiss.TheVariants.{LoOffGrid, HiOffGrid, LoNotUnderHi, LoMisjudged, HiMisjudged, LoNotBelow, HiNotAbove, CountOver}
use Rattle.ends.specs.Ends.{place_pieces, misjudged_pieces, over_pieces, amiss_pieces}

place_short : (end : List ℕ) (n : ℤ) (must : List ℕ) → size (place_pieces end n must) ≤ length end + length must + 21
unfolding concat place_pieces
place_short end n must = simp length-append (omega (arith, signed-short n))

misjudged-short : (end : List ℕ) (n : ℤ) (j : Judgement) → size (misjudged_pieces end n j) ≤ length end + 53
unfolding concat misjudged_pieces
misjudged-short end n j = simp (concat-append, length-append) (omega (arith, signed-short n, judgement-short j))

over-short : (count most : ℕ) → size (over_pieces count most) ≤ 512
unfolding concat over_pieces
over-short count most = simp length-append (omega (arith, at_most 20 count, at_most 20 most))

pub amiss-fits : (a : Amiss) → size (amiss_pieces a) ≤ 512
amiss-fits (LoOffGrid n) = omega (arith, place_short (ascii "refused 6 lo ") n (ascii " must be on the grid\n"))
amiss-fits (HiOffGrid n) = omega (arith, place_short (ascii "refused 6 hi ") n (ascii " must be on the grid\n"))
amiss-fits (LoNotUnderHi n) = omega (arith, place_short (ascii "refused 6 lo ") n (ascii " must be under hi\n"))
amiss-fits (LoMisjudged n j) = omega (arith, misjudged-short (ascii "refused 6 lo ") n j)
amiss-fits (HiMisjudged n j) = omega (arith, misjudged-short (ascii "refused 6 hi ") n j)
amiss-fits (LoNotBelow n) = omega (arith, place_short (ascii "refused 6 lo ") n (ascii " must be low or under\n"))
amiss-fits (HiNotAbove n) = omega (arith, place_short (ascii "refused 6 hi ") n (ascii " must be high or over\n"))
amiss-fits (CountOver count most) = over-short count most
