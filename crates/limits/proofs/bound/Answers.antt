-- Test by test. Assumes nothing.
use Rattle.text.proofs.Lays.{one}
use Rattle.limits.specs.Limits.{bound_pieces}
use Rattle.limits.proofs.bound.Goals as goal

pub returns-then-x : goal.returns-then-x
unfolding bound_pieces
returns-then-x c = rw c.if-x.true (one c.bytes.ensures)

pub returns-then-x-2 : goal.returns-then-x-2
unfolding bound_pieces
returns-then-x-2 c = rw (c.if-x.false, c.if-x-2.true) (one c.bytes-then-x-2.ensures)

pub returns-then-x-3 : goal.returns-then-x-3
unfolding bound_pieces
returns-then-x-3 c = rw (c.if-x.false, c.if-x-2.false, c.if-x-3.true) (one c.bytes-then-x-3.ensures)

pub returns : goal.returns
unfolding bound_pieces
returns c = rw (c.if-x.false, c.if-x-2.false, c.if-x-3.false) c.other.ensures
