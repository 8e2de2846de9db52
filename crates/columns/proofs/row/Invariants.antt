-- One number more each turn. Assumes nothing.
use Rattle.columns.proofs.RowLaws.{Row}
use Rattle.columns.proofs.row.Given as goal

abbrev pub invariant-loop-x : goal.invariant-loop-x
invariant-loop-x l = Row l.style l.initial.buf l.at l.xs l.buf l.e l.x-index
