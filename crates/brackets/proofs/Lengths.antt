-- The line fits 512 bytes. Assumes nothing.
use Prim.Native.Nat.{◌≤◌}
use native.Mathlib.Omega.{arith}
use lib.ListN.{length-append}
use lib.Dec.{lit≤}
use lib.IntN.{ℤ}
use Rattle.text.specs.Pieces.{concat}
use Rattle.text.proofs.Decimals.{at_most}
use Rattle.text.proofs.Signs.{signed-short}
use Rattle.text.proofs.Lays.{size, concat-append}
use Rattle.figures.proofs.Lengths.{bits-short}
use Rattle.iterator.specs.declared.Judgement.{Judgement}
use Rattle.iterator.specs.declared.Judgement.TheVariants.{Low, High, Under, Over}
use Rattle.iterator.specs.declared.Bracket.{Bracket}
use Rattle.brackets.specs.Brackets.{judgement_pieces, bracket_end_pieces, from_pieces, stopped_pieces}

pub judgement-short : (j : Judgement) → size (judgement_pieces j) ≤ 22
unfolding concat judgement_pieces
judgement-short (Low t) = simp length-append (omega (arith, bits-short t))
judgement-short (High t) = simp length-append (omega (arith, bits-short t))
judgement-short Under = lit≤ tt
judgement-short Over = lit≤ tt

pub place-judged : (n : ℤ) (j : Judgement) → size (bracket_end_pieces n j) ≤ 45
unfolding concat bracket_end_pieces
place-judged n j = simp length-append (omega (arith, signed-short n, judgement-short j))

from-short : (b : Bracket) → size (from_pieces b) ≤ 116
unfolding concat from_pieces
from-short b = simp (concat-append, length-append) (omega (arith, place-judged b.lo b.below, place-judged b.hi b.above, at_most 20 b.count))

pub stopped-fits : (b : Bracket) → size (stopped_pieces b) ≤ 512
unfolding concat stopped_pieces
stopped-fits b = simp (concat-append, length-append) (omega (arith, from-short b))
