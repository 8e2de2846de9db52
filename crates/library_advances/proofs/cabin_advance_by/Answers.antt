-- Short or not, judged or not, and then the advance. Assumes nothing.
use mathlib.Core.Path.{sym, ◌∙◌}
use borrow.Author.Tests.{lt-leb, le-leb}
use Rattle.library_advances.proofs.Laws.{no_room, misjudged, judged}
use Rattle.library_advances.proofs.cabin_advance_by.Goals as goal

pub returns-then-state-lt6 : goal.returns-then-state-lt6
returns-then-state-lt6 c = no_room _ (rw (lt-leb _ _ c.if-state-lt6.true))

pub returns-then-run_short : goal.returns-then-run_short
returns-then-run_short c = no_room _ (rw (← c.run_short.ensures, le-leb _ _ c.if-state-lt6.false, c.if-run_short.true))

pub returns-then-out-lt8 : goal.returns-then-out-lt8
returns-then-out-lt8 c = no_room _ (rw (← c.run_short.ensures, le-leb _ _ c.if-state-lt6.false, c.if-run_short.false, lt-leb _ _ c.if-out-lt8.true))

pub returns-then-whole-lt6 : goal.returns-then-whole-lt6
returns-then-whole-lt6 c = no_room _ (rw (← c.run_short.ensures, le-leb _ _ c.if-state-lt6.false, c.if-run_short.false, le-leb _ _ c.if-out-lt8.false, lt-leb _ _ c.if-whole-lt6.true))

pub returns-then-run_misjudged : goal.returns-then-run_misjudged
returns-then-run_misjudged c = misjudged _ _ (rw (← c.run_short.ensures, le-leb _ _ c.if-state-lt6.false, c.if-run_short.false, le-leb _ _ c.if-out-lt8.false, le-leb _ _ c.if-whole-lt6.false)) (sym c.run_misjudged.ensures ∙ c.if-run_misjudged.true)

pub returns : goal.returns
returns c =
    judged _ (rw (← c.run_short.ensures, le-leb _ _ c.if-state-lt6.false, c.if-run_short.false, le-leb _ _ c.if-out-lt8.false, le-leb _ _ c.if-whole-lt6.false)) (sym c.run_misjudged.ensures ∙ c.if-run_misjudged.false)
    (rw (c.advance.ensures, c.state_in-s.ensures, c.beginning_from-g.ensures) at c.give_advance.ensures)
