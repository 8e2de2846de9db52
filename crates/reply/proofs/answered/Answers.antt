-- By the request; each arm is its routine's own answer. Assumes nothing.
use mathlib.Core.Path.{sym, ap}
use Rattle.text.proofs.Lays.{laid_as}
use Rattle.text.specs.Pieces.{end}
use Rattle.reply.specs.Replies.{reply_of}
use Rattle.reply.proofs.answered.Goals as goal

pub returns-in-Nothing : goal.returns-in-Nothing
returns-in-Nothing c = laid_as (ap (reply_of _) (sym c.in-Nothing.is)) end
