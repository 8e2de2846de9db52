-- The loop has found the first i numbers finite, so that all are where those behind them are. Assumes nothing.
use Prim.Native.Nat.{◌+◌, ◌*◌, ◌-◌, ◌≤◌}
use mathlib.Core.Path.{◌≡◌}
use lib.ListN.{length}
use Rattle.session.specs.Layout.{numbers_from, all_finite}
use Rattle.session.proofs.payload.are_finite.Given as goal

abbrev pub invariant-loop-i : goal.invariant-loop-i
invariant-loop-i l =
    (l.i ≤ l.n) × (14 + 8 * l.n ≤ length l.s) × (all_finite (numbers_from 0 l.n l.s) ≡ all_finite (numbers_from l.i (l.n - l.i) l.s))
