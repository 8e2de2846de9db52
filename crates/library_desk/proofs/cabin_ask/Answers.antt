-- Short or not, and then the line. Assumes nothing.
use mathlib.Core.Path.{◌∙◌}
use borrow.Author.Tests.{lt-leb, le-leb}
use Rattle.reply.specs.Replies.{reply_room, reply_text}
use Rattle.lent.proofs.Gives.{short-wholes}
use Rattle.library_records.proofs.Laws.{short-bytes}
use Rattle.library_lines.proofs.Laws.{told-by-number, line-bytes}
use Rattle.library_desk.proofs.cabin_ask.Goals as goal

pub returns-then-whole-lt1 : goal.returns-then-whole-lt1
returns-then-whole-lt1 c = rw (lt-leb _ _ c.if-whole-lt1.true) (short-wholes _, short-bytes _ _ _)

pub returns : goal.returns
returns c =
    let a = c.args in
    rw (le-leb _ _ c.if-whole-lt1.false)
    (rw (c.reply.ensures.answer, le-leb _ _ c.if-whole-lt1.false) at (told-by-number _ c.reply.result c.by_number.ensures c.give_made.ensures), c.reply.ensures.buffer ∙ line-bytes reply_room (reply_text a.used.now a.line.now) a.answer.now)
