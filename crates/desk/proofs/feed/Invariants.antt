-- Each line is answered; what is left of the input falls.
use Rattle.std.proofs.Common.{◌-◌, length}
use Rattle.desk.proofs.Feeds.{Left}
use Rattle.desk.proofs.feed.Given as goal

abbrev pub invariant-loop-n : goal.invariant-loop-n
invariant-loop-n g l = Left l.input l.initial.line l.kept l.line l.k l.from

abbrev pub decreases-loop-n : goal.decreases-loop-n
decreases-loop-n g l = length l.input - l.from
