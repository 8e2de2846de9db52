-- By the record's kind. Assumes nothing.
use Rattle.replay.specs.Replay.{step_of}
use Rattle.replay.proofs.step.Goals as goal

pub returns-in-State : goal.returns-in-State
unfolding step_of
returns-in-State c = simp (c.in-State.is, c.state_step.ensures)

pub returns-in-Burn : goal.returns-in-Burn
unfolding step_of
returns-in-Burn c = simp (c.in-Burn.is, c.burn_step.ensures)

pub returns-in-Mark : goal.returns-in-Mark
unfolding step_of
returns-in-Mark c = simp (c.in-Mark.is, c.mark_step.ensures)
