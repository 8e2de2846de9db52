-- `reach::nested` meets its contract. At the loop's head g is the nest of the odd numbers from i on; the measure is i. Assumes nothing.
use Prim.Native.Nat.{◌≤◌, ◌-◌}
use mathlib.Core.Path.{◌≡◌}
use lib.ListN.{drop}
use Rattle.reach.specs.Reach.{g_nest}
use Rattle.reach.proofs.nested.Given as goal

abbrev pub invariant-loop-i : goal.invariant-loop-i
invariant-loop-i l = (l.i ≤ 8) × (l.g ≡ g_nest l.y (drop l.i l.d))

abbrev pub decreases-loop-i : goal.decreases-loop-i
decreases-loop-i l = l.i
