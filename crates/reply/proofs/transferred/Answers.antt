-- By the version. Assumes nothing.
use Rattle.reply.specs.Replies.{transfer_asked}
use Rattle.reply.proofs.transferred.Goals as goal

pub returns-in-Standard : goal.returns-in-Standard
unfolding transfer_asked
returns-in-Standard c = rw c.in-Standard.is c.transfer_velocity_limited.ensures

pub returns-in-Named : goal.returns-in-Named
unfolding transfer_asked
returns-in-Named c = rw c.in-Named.is c.transfer_velocity.ensures
