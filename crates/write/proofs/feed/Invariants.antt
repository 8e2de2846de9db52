-- Each line is entered; what is left of the input falls.
use Rattle.std.proofs.Common.{◌-◌, length}
use Rattle.write.proofs.Turned.{Left}
use Rattle.write.proofs.feed.Given as goal

abbrev pub invariant-loop-size : goal.invariant-loop-size
invariant-loop-size l = Left l.input l.initial.line l.fn.state.kept l.initial.session l.fn.state.progress l.line l.kept l.from l.session l.progress

abbrev pub decreases-loop-size : goal.decreases-loop-size
decreases-loop-size l = length l.input - l.from
