-- The first i versions are allowed, so that all are where those behind them are. Assumes nothing.
use Rattle.std.proofs.Common.{◌≡◌, ◌+◌, ◌-◌, ◌*◌, drop}
use Rattle.settings.specs.Layout.{versions_from}
use Rattle.settings.proofs.layout.are_versions.Given as goal

abbrev pub invariant-loop-i : goal.invariant-loop-i
invariant-loop-i l = versions_from l.n 1 l.s ≡ versions_from (l.n - l.i) (l.i + 1) (drop (44 * l.i) l.s)
