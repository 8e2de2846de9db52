-- `graded::transfer_velocity` meets its contract: the settings are looked at first. Assumes nothing.
use mathlib.Core.Path.{sym, ◌∙◌}
use Rattle.graded.specs.Graded.{transfer_by}
use Rattle.graded.proofs.transfer_velocity.Goals as goal

pub returns-in-Ok : goal.returns-in-Ok
unfolding transfer_by
returns-in-Ok c =
    simp (sym c.look_up.ensures ∙ c.in-Ok.is, c.transferred.ensures, c.transfer_velocity_limited.ensures, c.fractions_of.ensures)

pub returns-in-Err : goal.returns-in-Err
unfolding transfer_by
returns-in-Err c = simp (sym c.look_up.ensures ∙ c.in-Err.is)
