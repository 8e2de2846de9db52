-- A run or none. Assumes nothing.
use borrow.Author.Tests.{lt-ltb, le-ltb}
use Rattle.cases.specs.Cases.{beginning_from}
use Rattle.cases.proofs.runs.beginning_from.Goals as goal

pub returns-then-from-lt1 : goal.returns-then-from-lt1
unfolding beginning_from
returns-then-from-lt1 c = rw (lt-ltb _ _ c.if-from-lt1.true)

pub returns : goal.returns
unfolding beginning_from
returns c = rw (le-ltb _ _ c.if-from-lt1.false, c.bracket_from.ensures)
