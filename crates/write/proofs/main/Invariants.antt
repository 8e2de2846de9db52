-- What is kept lies within the room of the line, and the records within that of the session.
use Rattle.std.proofs.Common.{◌≤◌, length}
use Rattle.write.proofs.main.Given as goal

abbrev pub invariant-loop : goal.invariant-loop
invariant-loop l = (l.state.kept ≤ length l.line) × (l.state.progress.at ≤ length l.session)
