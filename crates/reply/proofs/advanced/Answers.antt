-- By the version. Assumes nothing.
use Rattle.reply.specs.Replies.{advance_asked}
use Rattle.reply.proofs.advanced.Goals as goal

pub returns-in-Standard : goal.returns-in-Standard
unfolding advance_asked
returns-in-Standard c = rw c.in-Standard.is c.advance_limited.ensures

pub returns-in-Named : goal.returns-in-Named
unfolding advance_asked
returns-in-Named c = rw c.in-Named.is c.advance.ensures
