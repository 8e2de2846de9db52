-- Short or not, and then the line. Assumes nothing.
use mathlib.Core.Path.{◌∙◌}
use borrow.Author.Tests.{lt-leb, le-leb}
use Rattle.lines.specs.Lines.{line_room, heading_text}
use Rattle.lent.proofs.Gives.{short-wholes}
use Rattle.library_records.proofs.Laws.{short-bytes}
use Rattle.library_lines.proofs.Laws.{told-by-number, line-bytes}
use Rattle.library_lines.proofs.cabin_heading.Goals as goal

pub returns-then-whole-lt1 : goal.returns-then-whole-lt1
returns-then-whole-lt1 c = rw (lt-leb _ _ c.if-whole-lt1.true) (short-wholes _, short-bytes _ _ _)

pub returns : goal.returns
returns c =
    let a = c.args in
    rw (le-leb _ _ c.if-whole-lt1.false)
    (rw (c.heading.ensures.answer, le-leb _ _ c.if-whole-lt1.false) at (told-by-number _ c.heading.result c.by_number.ensures c.give_made.ensures), c.heading.ensures.buffer ∙ line-bytes line_room heading_text a.line.now)
