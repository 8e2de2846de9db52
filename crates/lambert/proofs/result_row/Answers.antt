-- `lambert::result_row` meets its contract. Assumes nothing.
use mathlib.Core.Path.{◌∙◌}
use Rattle.table.proofs.Laws.{first_failing_lem}
use Rattle.lambert.specs.Lambert.{result_row}
use Rattle.lambert.proofs.result_row.Goals as goal

pub returns : goal.returns
returns c = c.velocity_components.ensures ∙ first_failing_lem (result_row c.args.v)
