-- Each turn reads one number more. Assumes nothing.
use mathlib.Core.Path.{◌≡◌}
use lib.ListN.{length}
use Rattle.forms.proofs.Rows.{Got, Filled}
use Rattle.forms.proofs.parts.numbers.Given as goal

abbrev pub invariant-loop-i : goal.invariant-loop-i
invariant-loop-i l = (length l.xs ≡ l.i-end) × Got l.line l.k l.xs l.i × Filled l.line l.k l.initial.xs l.xs l.i
