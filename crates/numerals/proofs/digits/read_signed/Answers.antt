-- `read_signed`: by the first byte.
use Rattle.std.proofs.Common.{refl, sym, ap, ◌∙◌}
use Rattle.numerals.proofs.Values.{begins}
use Rattle.numerals.specs.Numbers.{word_decimal, plain, minus, word_signed}
use Rattle.numerals.proofs.digits.read_signed.Goals as goal

pub returns-in-Some : goal.returns-in-Some
unfolding word_signed
returns-in-Some c =
    let e = c.in-Some.ensures.cases in
    c.negative.ensures ∙ ap minus (c.decimal_digits.ensures ∙ ap word_decimal e.1) ∙ rw (sym (begins c.args.s.now 45 refl) ∙ e.0) refl

pub returns-in-None : goal.returns-in-None
unfolding word_signed
returns-in-None c = c.positive.ensures ∙ ap plain c.decimal_digits-in-None.ensures ∙ rw (sym (begins c.args.s.now 45 refl) ∙ c.in-None.ensures.cases) refl
