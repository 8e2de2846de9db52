-- Each turn puts one more line behind those made; the measure is how many steps are left. Assumes nothing.
use lib.ListN.{length}
use Rattle.report.specs.Listing.{steps_from}
use Rattle.report.proofs.Parts.{Part}
use Rattle.report.proofs.fill_lines.Given as goal

abbrev pub invariant-loop-out : goal.invariant-loop-out
invariant-loop-out l = Part l.s l.initial.state l.initial.out l.out l.n l.state

abbrev pub decreases-loop-out : goal.decreases-loop-out
decreases-loop-out l = length (steps_from l.s l.state)
