-- Short or not, a kind or none, numbers enough or not, and then the writer. Assumes nothing.
use mathlib.Core.Path.{refl, ◌∙◌}
use mir.Syntax.{w64}
use mir.Facts.{to_z-of_z}
use borrow.Author.Tests.{lt-leb, le-leb}
use Rattle.library_records.specs.Records.{record_from, write_told}
use Rattle.lent.proofs.Gives.{left-wholes, short-wholes, enough-wholes}
use Rattle.library_records.proofs.Laws.{short-bytes, left-bytes, few_bytes, write_bytes}
use Rattle.library_records.proofs.writing.cabin_write.Goals as goal

pub returns-then-whole-lt1 : goal.returns-then-whole-lt1
returns-then-whole-lt1 c = rw (lt-leb _ _ c.if-whole-lt1.true) (short-wholes _, short-bytes _ _ _)

pub returns-then-kind-lt1 : goal.returns-then-kind-lt1
unfolding write_told
returns-then-kind-lt1 c = rw (le-leb _ _ c.if-whole-lt1.false, lt-leb _ _ c.if-kind-lt1.true) (enough-wholes (left-wholes refl), left-bytes _ _ _)

pub returns-then-kind-gt3 : goal.returns-then-kind-gt3
unfolding write_told
returns-then-kind-gt3 c = rw (le-leb _ _ c.if-whole-lt1.false, le-leb _ _ c.if-kind-lt1.false, lt-leb _ _ c.if-kind-gt3.true) (enough-wholes (left-wholes refl), left-bytes _ _ _)

pub returns-then-numbers-count_from : goal.returns-then-numbers-count_from
unfolding write_told
returns-then-numbers-count_from c = rw (← c.count_from.ensures, le-leb _ _ c.if-whole-lt1.false, le-leb _ _ c.if-kind-lt1.false, le-leb _ _ c.if-kind-gt3.false, lt-leb _ _ c.if-numbers-count_from.true) (enough-wholes (short-wholes _), few_bytes _ _ _)

pub returns : goal.returns
unfolding write_told
returns c =
    let a = c.args in
    let m = to_z-of_z {w = w64} {z = c.args.time} c.ranges.time in
    let e = c.record_from-r.ensures in
    rw (← c.count_from.ensures, le-leb _ _ c.if-whole-lt1.false, le-leb _ _ c.if-kind-lt1.false, le-leb _ _ c.if-kind-gt3.false, le-leb _ _ c.if-numbers-count_from.false)
    (enough-wholes (enough-wholes (rw (c.write.ensures.0, e, m) at c.give_written.ensures)), rw (e, m) at c.write.ensures.1 ∙ write_bytes a.buf.now a.at (record_from a.kind a.vehicle a.body a.time a.numbers.now))
