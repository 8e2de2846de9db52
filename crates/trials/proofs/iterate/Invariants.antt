-- `trials::iterate` meets its contract: the invariant says that the run from here, under the limit, is the run from the start; the measure is the width of the bracket. Assumes nothing.
use Rattle.iterator.specs.Rule.{width_of}
use Rattle.problem.specs.Problems.{judge_of}
use Rattle.trials.specs.Span.{bracket_of}
use Rattle.trials.proofs.Going.{Going}
use Rattle.trials.proofs.iterate.Given as goal

abbrev pub invariant-loop-s : goal.invariant-loop-s
invariant-loop-s l = Going (judge_of l.problem l.asked) l.asked l.limit (bracket_of l.initial.s) (bracket_of l.s)

abbrev pub decreases-loop-s : goal.decreases-loop-s
decreases-loop-s l = width_of l.s.lo l.s.hi
