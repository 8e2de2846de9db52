-- `series::nested` meets its contract. At the loop's head p is the nest of the divisors from i on; the measure is i. Assumes nothing.
use Prim.Native.Nat.{◌≤◌, ◌-◌}
use mathlib.Core.Path.{◌≡◌}
use lib.ListN.{drop}
use Rattle.series.specs.Series.{nest}
use Rattle.series.proofs.nested.Given as goal

abbrev pub invariant-loop-i : goal.invariant-loop-i
invariant-loop-i l = (l.i ≤ 8) × (l.p ≡ nest l.xi (drop l.i l.d))

abbrev pub decreases-loop-i : goal.decreases-loop-i
decreases-loop-i l = l.i
