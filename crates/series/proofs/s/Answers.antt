-- `series::s` meets its contract: each answer is what the definition picks by the tests that led there. Assumes nothing.
use Rattle.series.specs.Series.{answer}
use mathlib.Core.Path.{ap}
use mathlib.Core.Bool.{not}
use Rattle.series.proofs.s.Goals as goal

pub returns-then-not-is_finite : goal.returns-then-not-is_finite
unfolding answer
returns-then-not-is_finite c = rw (← c.is_finite.ensures, (ap not c.if-not-is_finite.true))

pub returns-then-not-in_range : goal.returns-then-not-in_range
unfolding answer
returns-then-not-in_range c = rw (← c.is_finite.ensures, (ap not c.if-not-is_finite.false), ← c.in_range.ensures, (ap not c.if-not-in_range.true))

pub returns : goal.returns
unfolding answer
returns c =
    rw (
      ← c.is_finite.ensures,
      (ap not c.if-not-is_finite.false),
      ← c.in_range.ensures,
      (ap not c.if-not-in_range.false),
      c.s_at.ensures,
    )
