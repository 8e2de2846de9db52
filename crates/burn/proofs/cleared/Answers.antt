-- `burn::cleared` meets its contract. Assumes nothing.
use mathlib.Core.Path.{sym, ◌∙◌}
use Rattle.burn.specs.Burn.{cleared_of}
use Rattle.burn.proofs.cleared.Goals as goal

pub returns-then-is_clear : goal.returns-then-is_clear
unfolding cleared_of
returns-then-is_clear c = simp (c.in-Closed.is, sym c.is_clear.ensures ∙ c.if-is_clear.true)

pub returns-then-is_clear-2 : goal.returns-then-is_clear-2
unfolding cleared_of
returns-then-is_clear-2 c = simp (c.in-Open.is, sym c.is_clear-in-Open.ensures ∙ c.if-is_clear-2.true)

pub returns-else-is_clear : goal.returns-else-is_clear
unfolding cleared_of
returns-else-is_clear c = simp (c.in-Closed.is, sym c.is_clear.ensures ∙ c.if-is_clear.false)

pub returns-else-is_clear-2 : goal.returns-else-is_clear-2
unfolding cleared_of
returns-else-is_clear-2 c = simp (c.in-Open.is, sym c.is_clear-in-Open.ensures ∙ c.if-is_clear-2.false)

pub returns-in-Refused : goal.returns-in-Refused
unfolding cleared_of
returns-in-Refused c = rw c.in-Refused.is
