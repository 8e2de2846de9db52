-- Each step is one of the calls of the law, and what is left of the input falls.
use Rattle.std.proofs.Common.{◌-◌, length}
use Rattle.watch.proofs.Turns.{Leads}
use Rattle.watch.proofs.feed.Given as goal

abbrev pub invariant-loop-step : goal.invariant-loop-step
invariant-loop-step g l = Leads l.initial.x l.initial.room l.input l.x l.room l.from

abbrev pub decreases-loop-step : goal.decreases-loop-step
decreases-loop-step g l = length l.input - l.from
