-- By the kind. Assumes nothing.
use mir.Syntax.{w64}
use mir.Facts.{to_z-of_z}
use borrow.Author.Tests.{eq-eqb, ne_eqb}
use Rattle.library_records.specs.Records.{kind_from}
use Rattle.library_records.proofs.writing.record_from.Goals as goal

pub returns-then-k-eq1 : goal.returns-then-k-eq1
unfolding kind_from
returns-then-k-eq1 c = rw (eq-eqb _ _ c.if-k-eq1.true, c.state_in-state.ensures, to_z-of_z {w = w64} {z = c.args.time} c.ranges.time)

pub returns-then-k-eq2 : goal.returns-then-k-eq2
unfolding kind_from
returns-then-k-eq2 c = rw (ne_eqb _ _ c.if-k-eq1.false, eq-eqb _ _ c.if-k-eq2.true, c.vector_in-change.ensures, to_z-of_z {w = w64} {z = c.args.time} c.ranges.time)

pub returns : goal.returns
unfolding kind_from
returns c = rw (ne_eqb _ _ c.if-k-eq1.false, ne_eqb _ _ c.if-k-eq2.false, c.number_at-range.ensures, c.number_at-rate.ensures, to_z-of_z {w = w64} {z = c.args.time} c.ranges.time)
