-- Five pieces. Assumes nothing.
use Rattle.text.specs.Pieces.{then}
use Rattle.text.proofs.Lays.{one}
use Rattle.book.specs.Book.{fault_pieces}
use Rattle.book.proofs.fault.Goals as goal

pub returns : goal.returns
unfolding fault_pieces
returns c =
    then c.bytes-a.ensures (then c.number-b.ensures (then c.bytes-c.ensures (then c.number-d.ensures (one c.byte.ensures))))
