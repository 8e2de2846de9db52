-- The room, tested once; every reply fits it. Assumes nothing.
use mathlib.Core.Path.{ap}
use Rattle.requests.specs.Requests.{request_of}
use Rattle.text.proofs.Lays.{all_fit, laid_as}
use Rattle.text.proofs.Fronts.{in_front_lem}
use Rattle.reply.specs.Replies.{reply_room, line_reply}
use Rattle.reply.proofs.Fits.{reply-fits}
use Rattle.reply.proofs.reply.Goals as goal

pub returns : goal.returns
returns c =
    let l = laid_as (ap (line_reply _) c.read.ensures) c.line_answered.ensures in
    in_front_lem {room = reply_room} c.if-buf-lt512.false (reply-fits _ (request_of c.args.line.now)) (all_fit l)
