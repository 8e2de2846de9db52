-- The definition's four tests, in their order. Assumes nothing.
use mathlib.Core.Path.{refl, sym, ap, ◌∙◌}
use Rattle.text.specs.Text.{ascii}
use Rattle.words.proofs.Searches.{front_starts}
use Rattle.numerals.specs.Numbers.{word_number}
use Rattle.forms.specs.Judgements.{as_low, as_high, word_judgement}
use Rattle.forms.proofs.judgement.read_judgement.Goals as goal

pub returns-then-is_word : goal.returns-then-is_word
unfolding word_judgement
returns-then-is_word c = rw (sym c.is_word.ensures ∙ c.if-is_word.true) refl

pub returns-then-is_word-2 : goal.returns-then-is_word-2
unfolding word_judgement
returns-then-is_word-2 c = rw (sym c.is_word.ensures ∙ c.if-is_word.false, sym c.is_word-2.ensures ∙ c.if-is_word-2.true) refl

pub returns-in-Some : goal.returns-in-Some
unfolding word_judgement
returns-in-Some c =
    let e = c.in-Some.ensures.cases in
    c.low.ensures ∙ ap as_low (c.read_number.ensures ∙ ap word_number e.1)
    ∙ rw (sym c.is_word.ensures ∙ c.if-is_word.false, sym c.is_word-2.ensures ∙ c.if-is_word-2.false, sym (front_starts c.args.s.now (ascii "low:")) ∙ e.0) refl

pub returns-in-Some-strip_prefix : goal.returns-in-Some-strip_prefix
unfolding word_judgement
returns-in-Some-strip_prefix c =
    let e = c.in-Some-strip_prefix.ensures.cases in
    c.high.ensures ∙ ap as_high (c.read_number-in-Some-strip_prefix.ensures ∙ ap word_number e.1)
    ∙ rw (sym c.is_word.ensures ∙ c.if-is_word.false, sym c.is_word-2.ensures ∙ c.if-is_word-2.false, sym (front_starts c.args.s.now (ascii "low:")) ∙ c.in_default.ensures.cases, sym (front_starts c.args.s.now (ascii "high:")) ∙ e.0) refl

pub returns : goal.returns
unfolding word_judgement
returns c = rw (sym c.is_word.ensures ∙ c.if-is_word.false, sym c.is_word-2.ensures ∙ c.if-is_word-2.false, sym (front_starts c.args.s.now (ascii "low:")) ∙ c.in_default.ensures.cases, sym (front_starts c.args.s.now (ascii "high:")) ∙ c.in_default-strip_prefix.ensures.cases) refl
