-- By the tests. Assumes nothing.
use borrow.Author.Tests.{lt-ltb, le-ltb}
use Rattle.held_replay.specs.Held.{held_wrong}
use Rattle.held_replay.proofs.held_wrong.Goals as goal

pub returns-then-word_at-gt1 : goal.returns-then-word_at-gt1
unfolding held_wrong
returns-then-word_at-gt1 c = rw (← c.word_at.ensures, lt-ltb _ _ c.if-word_at-gt1.true)

pub returns-then-word_at-gt1-2 : goal.returns-then-word_at-gt1-2
unfolding held_wrong
returns-then-word_at-gt1-2 c = rw (← c.word_at.ensures, ← c.word_at-2.ensures, le-ltb _ _ c.if-word_at-gt1.false, lt-ltb _ _ c.if-word_at-gt1-2.true)

pub returns-then-word_at-gt1-3 : goal.returns-then-word_at-gt1-3
unfolding held_wrong
returns-then-word_at-gt1-3 c = rw (← c.word_at.ensures, ← c.word_at-2.ensures, ← c.word_at-3.ensures, le-ltb _ _ c.if-word_at-gt1.false, le-ltb _ _ c.if-word_at-gt1-2.false, lt-ltb _ _ c.if-word_at-gt1-3.true)

pub returns : goal.returns
unfolding held_wrong
returns c = rw (← c.word_at.ensures, ← c.word_at-2.ensures, ← c.word_at-3.ensures, ← c.word_at-4.ensures, le-ltb _ _ c.if-word_at-gt1.false, le-ltb _ _ c.if-word_at-gt1-2.false, le-ltb _ _ c.if-word_at-gt1-3.false)
