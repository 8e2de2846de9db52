-- `decimal_digits`: one digit or more.
use Rattle.std.proofs.Common.{refl, sym, ◌∙◌}
use Rattle.numerals.specs.Numbers.{word_decimal}
use Rattle.numerals.proofs.digits.decimal_digits.Goals as goal

pub returns-then-is_empty : goal.returns-then-is_empty
unfolding word_decimal
returns-then-is_empty c = rw (sym c.is_empty.ensures ∙ c.if-is_empty.true) refl

pub returns : goal.returns
unfolding word_decimal
returns c = c.read_digits.ensures ∙ rw (sym c.is_empty.ensures ∙ c.if-is_empty.false) refl
