-- Short or not, a way, judged or not, and then the velocity. Assumes nothing.
use mathlib.Core.Path.{sym, ◌∙◌}
use borrow.Author.Tests.{lt-leb, le-leb}
use Rattle.library_advances.proofs.Laws.{no_room}
use Rattle.library_transfers.proofs.Laws.{no_way, misjudged, judged}
use Rattle.library_transfers.proofs.cabin_transfer_velocity_within.Goals as goal

pub returns-then-ends_short : goal.returns-then-ends_short
returns-then-ends_short c = no_room _ (rw (← c.ends_short.ensures, c.if-ends_short.true))

pub returns-then-run_short : goal.returns-then-run_short
returns-then-run_short c = no_room _ (rw (← c.ends_short.ensures, ← c.run_short.ensures, c.if-ends_short.false, c.if-run_short.true))

pub returns-then-out-lt5 : goal.returns-then-out-lt5
returns-then-out-lt5 c = no_room _ (rw (← c.ends_short.ensures, ← c.run_short.ensures, c.if-ends_short.false, c.if-run_short.false, lt-leb _ _ c.if-out-lt5.true))

pub returns-then-whole-lt6 : goal.returns-then-whole-lt6
returns-then-whole-lt6 c = no_room _ (rw (← c.ends_short.ensures, ← c.run_short.ensures, c.if-ends_short.false, c.if-run_short.false, le-leb _ _ c.if-out-lt5.false, lt-leb _ _ c.if-whole-lt6.true))

pub returns-then-way-gt2 : goal.returns-then-way-gt2
returns-then-way-gt2 c = no_way _ _ (rw (← c.ends_short.ensures, ← c.run_short.ensures, c.if-ends_short.false, c.if-run_short.false, le-leb _ _ c.if-out-lt5.false, le-leb _ _ c.if-whole-lt6.false)) (lt-leb _ _ c.if-way-gt2.true)

pub returns-then-run_misjudged : goal.returns-then-run_misjudged
returns-then-run_misjudged c = misjudged _ _ _ (rw (← c.ends_short.ensures, ← c.run_short.ensures, c.if-ends_short.false, c.if-run_short.false, le-leb _ _ c.if-out-lt5.false, le-leb _ _ c.if-whole-lt6.false)) (le-leb _ _ c.if-way-gt2.false) (sym c.run_misjudged.ensures ∙ c.if-run_misjudged.true)

pub returns : goal.returns
returns c =
    judged _ _ (rw (← c.ends_short.ensures, ← c.run_short.ensures, c.if-ends_short.false, c.if-run_short.false, le-leb _ _ c.if-out-lt5.false, le-leb _ _ c.if-whole-lt6.false)) (le-leb _ _ c.if-way-gt2.false) (sym c.run_misjudged.ensures ∙ c.if-run_misjudged.false)
    (rw (c.transfer_velocity_limited.ensures, c.beginning_from-g.ensures, c.way_from-w.ensures, c.vector_in-b.ensures, c.vector_in-a.ensures) at c.give_transfer.ensures)
