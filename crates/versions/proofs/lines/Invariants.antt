-- A version more each turn. Assumes nothing.
use Rattle.versions.proofs.Lists.{Lines}
use Rattle.versions.proofs.lines.Given as goal

abbrev pub invariant-loop-k : goal.invariant-loop-k
invariant-loop-k l = Lines l.initial.buf l.s l.buf l.e l.k
