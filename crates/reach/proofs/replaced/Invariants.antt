-- `reach::replaced` meets its contract. At the loop's head what is left to do from W comes to the whole; the measure is `left`. Assumes nothing.
use Prim.Native.Nat.{◌≤◌, ◌-◌}
use mathlib.Core.Path.{◌≡◌}
use Rattle.reach.specs.Reach.{replaced_of}
use Rattle.reach.proofs.replaced.Given as goal

abbrev pub invariant-loop-left : goal.invariant-loop-left
invariant-loop-left l = (l.left ≤ 5) × (replaced_of l.left l.a l.rootp l.w ≡ replaced_of 5 l.a l.rootp l.first)

abbrev pub decreases-loop-left : goal.decreases-loop-left
decreases-loop-left l = l.left
