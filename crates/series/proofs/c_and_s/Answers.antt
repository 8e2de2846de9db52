-- `series::c_and_s` meets its contract: each answer is what the definition picks by the tests that led there. Assumes nothing.
use Rattle.series.specs.Series.{both_answer}
use mathlib.Core.Path.{ap}
use mathlib.Core.Bool.{not}
use Rattle.series.proofs.c_and_s.Goals as goal

pub returns-then-not-is_finite : goal.returns-then-not-is_finite
unfolding both_answer
returns-then-not-is_finite c = rw (← c.is_finite.ensures, (ap not c.if-not-is_finite.true))

pub returns-then-not-in_range : goal.returns-then-not-in_range
unfolding both_answer
returns-then-not-in_range c = rw (← c.is_finite.ensures, (ap not c.if-not-is_finite.false), ← c.in_range.ensures, (ap not c.if-not-in_range.true))

pub returns : goal.returns
unfolding both_answer
returns c =
    rw (
      ← c.is_finite.ensures,
      (ap not c.if-not-is_finite.false),
      ← c.in_range.ensures,
      (ap not c.if-not-in_range.false),
      c.quartered_thrice.ensures,
    )
