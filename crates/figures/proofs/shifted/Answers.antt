-- `shifted`: the ten lowest digits fall away before the product can outgrow a u64.
use native.Mathlib.Omega.{arith}
use Rattle.figures.proofs.Sizes.{shift, shift_small, shift_none}
use Rattle.figures.proofs.shifted.Goals as goal

pub returns-then-t-ge64 : goal.returns-then-t-ge64
returns-then-t-ge64 c = (shift_none _ _ c.requires c.if-t-ge64.true, omega arith)

pub returns : goal.returns
returns c = (shift _ _, shift_small _ _ c.requires)
