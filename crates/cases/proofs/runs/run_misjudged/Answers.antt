-- By the tests. Assumes nothing.
use borrow.Author.Tests.{lt-ltb, le-ltb}
use Rattle.cases.specs.Cases.{run_misjudged}
use Rattle.cases.proofs.runs.run_misjudged.Goals as goal

pub returns-then-word_at-gt3 : goal.returns-then-word_at-gt3
unfolding run_misjudged
returns-then-word_at-gt3 c = rw (← c.word_at.ensures, lt-ltb _ _ c.if-word_at-gt3.true)

pub returns : goal.returns
unfolding run_misjudged
returns c = rw (← c.word_at.ensures, ← c.word_at-2.ensures, le-ltb _ _ c.if-word_at-gt3.false)
