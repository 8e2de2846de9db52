-- By the judgement; a carried time by its bits. Assumes nothing.
use Rattle.text.specs.Pieces.{then}
use Rattle.text.proofs.Lays.{one}
use Rattle.brackets.specs.Brackets.{judgement_pieces}
use Rattle.brackets.proofs.judgement.Goals as goal

pub returns-in-Low : goal.returns-in-Low
unfolding judgement_pieces
returns-in-Low c = rw c.in-Low.is (then c.bytes-a.ensures (one c.bits.ensures))

pub returns-in-High : goal.returns-in-High
unfolding judgement_pieces
returns-in-High c = rw c.in-High.is (then c.bytes-a-in-High.ensures (one c.bits-in-High.ensures))

pub returns-in-Under : goal.returns-in-Under
unfolding judgement_pieces
returns-in-Under c = rw c.in-Under.is (one c.bytes.ensures)

pub returns-in-Over : goal.returns-in-Over
unfolding judgement_pieces
returns-in-Over c = rw c.in-Over.is (one c.bytes-in-Over.ensures)
