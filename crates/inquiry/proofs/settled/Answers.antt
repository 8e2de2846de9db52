-- `inquiry::settled` meets its contract: case by case. Assumes nothing.
use mathlib.Core.Path.{sym, ◌∙◌}
use Rattle.inquiry.specs.Inquiry.{found_by, settled_by}
use Rattle.inquiry.proofs.settled.Goals as goal

pub returns-in-Standard : goal.returns-in-Standard
unfolding settled_by
returns-in-Standard c = simp c.in-Standard.is

pub returns-in-Ok : goal.returns-in-Ok
unfolding settled_by found_by
returns-in-Ok c = simp (c.in-Named.is, sym c.look_up.ensures ∙ c.in-Ok.is)

pub returns-in-Err : goal.returns-in-Err
unfolding settled_by found_by
returns-in-Err c = simp (c.in-Named.is, sym c.look_up.ensures ∙ c.in-Err.is)
