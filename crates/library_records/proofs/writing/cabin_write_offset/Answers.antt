-- Short or not, and then the writer. Assumes nothing.
use mathlib.Core.Path.{◌∙◌}
use mir.Syntax.{w16}
use mir.Facts.{to_z-of_z}
use borrow.Author.Tests.{lt-leb, le-leb}
use Rattle.lent.proofs.Gives.{short-wholes, enough-wholes}
use Rattle.library_records.proofs.Laws.{short-bytes, offset_bytes_lem}
use Rattle.library_records.proofs.writing.cabin_write_offset.Goals as goal

pub returns-then-whole-lt1 : goal.returns-then-whole-lt1
returns-then-whole-lt1 c = rw (lt-leb _ _ c.if-whole-lt1.true) (short-wholes _, short-bytes _ _ _)

pub returns : goal.returns
returns c =
    let a = c.args in
    let m = to_z-of_z {w = w16} {z = c.args.minutes} c.ranges.minutes in
    rw (le-leb _ _ c.if-whole-lt1.false)
    (enough-wholes (rw (c.write_offset.ensures.0, m) at c.give_written.ensures), rw m at c.write_offset.ensures.1 ∙ offset_bytes_lem a.buf.now a.at a.minutes)
