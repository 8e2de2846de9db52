-- Each of the two at no quartering left, at a small ξ, and from the other at a quarter. Assumes nothing.
use mathlib.Core.Path.{sym, ◌∙◌}
use Rattle.series.specs.Series.{c_quarter, s_quarter}
use Rattle.series.proofs.Quarterings.{c-none, s-none, c-small, s-small, c-more, s-more}
use Rattle.series.proofs.+c_at_s_at.Goals as goal

pub c_at-returns-then-left-eq0 : goal.c_at-returns-then-left-eq0
c_at-returns-then-left-eq0 t c = c.c_series.ensures ∙ c-none _ _ c.if-left-eq0.true

pub c_at-returns-then-is_small : goal.c_at-returns-then-is_small
c_at-returns-then-is_small t c =
    c.c_series-then-is_small.ensures ∙ c-small _ _ (sym c.is_small.ensures ∙ c.if-is_small.true)

pub c_at-returns : goal.c_at-returns
unfolding c_quarter
c_at-returns t c =
    c-more _ _ c.s_at.result c.if-left-eq0.false (sym c.is_small.ensures ∙ c.if-is_small.false) c.s_at.ensures

pub s_at-returns-then-left-eq0 : goal.s_at-returns-then-left-eq0
s_at-returns-then-left-eq0 t c = c.s_series.ensures ∙ s-none _ _ c.if-left-eq0.true

pub s_at-returns-then-is_small : goal.s_at-returns-then-is_small
s_at-returns-then-is_small t c =
    c.s_series-then-is_small.ensures ∙ s-small _ _ (sym c.is_small.ensures ∙ c.if-is_small.true)

pub s_at-returns : goal.s_at-returns
unfolding s_quarter
s_at-returns t c =
    s-more _ _ c.s_at-s.result c.c_at-c.result c.if-left-eq0.false (sym c.is_small.ensures ∙ c.if-is_small.false)
    c.s_at-s.ensures
    c.c_at-c.ensures
