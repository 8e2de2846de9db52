-- `read_number`: by the first byte.
use Rattle.std.proofs.Common.{refl, sym, ap, ◌∙◌}
use Rattle.numerals.proofs.Values.{begins}
use Rattle.numerals.specs.Numbers.{pattern_of, unsigned_of, negated, word_number}
use Rattle.numerals.proofs.reals.read_number.Goals as goal

pub returns-in-Some : goal.returns-in-Some
unfolding word_number
returns-in-Some c =
    let s = c.args.s.now in
    let e = c.in-Some.ensures.cases in
    c.pattern.ensures ∙ ap pattern_of e.1 ∙ rw (sym (begins s 120 refl) ∙ e.0) refl

pub returns-in-Some-strip_prefix : goal.returns-in-Some-strip_prefix
unfolding word_number
returns-in-Some-strip_prefix c =
    let s = c.args.s.now in
    let e = c.in-Some-strip_prefix.ensures.cases in
    c.negative.ensures ∙ ap negated (c.unsigned.ensures ∙ ap unsigned_of e.1) ∙ rw (sym (begins s 120 refl) ∙ c.in_default.ensures.cases, sym (begins s 45 refl) ∙ e.0) refl

pub returns-in-Some-strip_prefix-2 : goal.returns-in-Some-strip_prefix-2
unfolding word_number
returns-in-Some-strip_prefix-2 c =
    let s = c.args.s.now in
    let e = c.in-Some-strip_prefix-2.ensures.cases in
    c.unsigned-in-Some-strip_prefix-2.ensures ∙ ap unsigned_of e.1 ∙ rw (sym (begins s 120 refl) ∙ c.in_default.ensures.cases, sym (begins s 45 refl) ∙ c.in_default-strip_prefix.ensures.cases, sym (begins s 43 refl) ∙ e.0) refl

pub returns : goal.returns
unfolding word_number
returns c =
    let s = c.args.s.now in
    c.unsigned-2.ensures ∙ rw (sym (begins s 120 refl) ∙ c.in_default.ensures.cases, sym (begins s 45 refl) ∙ c.in_default-strip_prefix.ensures.cases, sym (begins s 43 refl) ∙ c.in_default-strip_prefix-2.ensures.cases) refl
