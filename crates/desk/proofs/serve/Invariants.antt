-- What is kept of a line lies within its room.
use Rattle.std.proofs.Common.{◌≤◌, length}
use Rattle.desk.proofs.serve.Given as goal

abbrev pub invariant-loop : goal.invariant-loop
invariant-loop g l = l.kept ≤ length l.line
