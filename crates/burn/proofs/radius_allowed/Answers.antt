-- `burn::radius_allowed` meets its contract: the row passes exactly where both its tests are met. Assumes nothing.
use mathlib.Core.Path.{sym, ap, ◌∙◌}
use Rattle.table.specs.Tests.{passes}
use Rattle.table.proofs.Laws.{first_failing_lem, passes-all}
use Rattle.rows.specs.Rows.{radius_row}
use Rattle.burn.proofs.radius_allowed.Goals as goal

pub returns-in-Ok : goal.returns-in-Ok
unfolding passes
returns-in-Ok c = let row = radius_row c.args.radius in
    ap passes (sym c.in-Ok.is ∙ c.radius_row.ensures ∙ first_failing_lem row) ∙ passes-all row

pub returns-in_default : goal.returns-in_default
unfolding passes
returns-in_default c = let row = radius_row c.args.radius in
    ap passes (sym c.in_default.is ∙ c.radius_row.ensures ∙ first_failing_lem row) ∙ passes-all row
