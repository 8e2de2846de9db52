-- Each turn passes a byte. Assumes nothing.
use Rattle.split.proofs.Turns.{Passed}
use Rattle.split.proofs.next_line.Given as goal

abbrev pub invariant-loop-i : goal.invariant-loop-i
invariant-loop-i l = Passed l.initial.room l.kept l.part l.from l.room l.k l.i
