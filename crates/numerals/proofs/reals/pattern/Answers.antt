-- `pattern`: 16 digits, no more and no fewer.
use Rattle.std.proofs.Common.{refl, ap, ◌∙◌, eq-eqb, ne_eqb}
use Rattle.numerals.specs.Numbers.{pattern_of, of_pattern}
use Rattle.numerals.proofs.reals.pattern.Goals as goal

pub returns-then-s-ne16 : goal.returns-then-s-ne16
unfolding pattern_of
returns-then-s-ne16 c = rw (ne_eqb _ _ c.if-s-ne16.true) refl

pub returns : goal.returns
unfolding pattern_of
returns c = c.of_pattern.ensures ∙ ap of_pattern c.read_digits.ensures ∙ rw (eq-eqb _ _ c.if-s-ne16.false) refl
