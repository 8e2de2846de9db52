-- `graded::advance` meets its contract: the settings are looked at first. Assumes nothing.
use mathlib.Core.Path.{sym, ◌∙◌}
use Rattle.graded.specs.Graded.{advance_by}
use Rattle.graded.proofs.advance.Goals as goal

pub returns-in-Ok : goal.returns-in-Ok
unfolding advance_by
returns-in-Ok c =
    simp (sym c.look_up.ensures ∙ c.in-Ok.is, c.advanced.ensures, c.advance_limited.ensures, c.size.ensures, c.fractions_of.ensures)

pub returns-in-Err : goal.returns-in-Err
unfolding advance_by
returns-in-Err c = simp (sym c.look_up.ensures ∙ c.in-Err.is)
