-- `read_whole`: by the first byte.
use Rattle.std.proofs.Common.{refl, sym, ap, ◌∙◌}
use Rattle.numerals.proofs.Values.{begins}
use Rattle.numerals.specs.Numbers.{word_decimal, only_zero, word_whole}
use Rattle.numerals.proofs.digits.read_whole.Goals as goal

pub returns-in-Some : goal.returns-in-Some
unfolding word_whole
returns-in-Some c =
    let e = c.in-Some.ensures.cases in
    c.only_zero.ensures ∙ ap only_zero (c.decimal_digits.ensures ∙ ap word_decimal e.1) ∙ rw (sym (begins c.args.s.now 45 refl) ∙ e.0) refl

pub returns-in-None : goal.returns-in-None
unfolding word_whole
returns-in-None c = c.decimal_digits-in-None.ensures ∙ rw (sym (begins c.args.s.now 45 refl) ∙ c.in-None.ensures.cases) refl
