-- `burn::margin` meets its contract. Assumes nothing.
use borrow.Author.Tests.{eq-eqb, ne_eqb}
use Rattle.burn.specs.Burn.{margin_of}
use Rattle.burn.proofs.margin.Goals as goal

pub returns-then-body-eq0 : goal.returns-then-body-eq0
unfolding margin_of
returns-then-body-eq0 c = simp (eq-eqb _ _ c.if-body-eq0.true)

pub returns-else-body-eq0 : goal.returns-else-body-eq0
unfolding margin_of
returns-else-body-eq0 c = simp (ne_eqb _ _ c.if-body-eq0.false)
