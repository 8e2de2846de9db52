-- `count_millionths`: the significand and the scale, by the exponent's field.
use Prim.Native.Nat.{◌+◌, ◌-◌, ◌/◌}
use native.Mathlib.Omega.{arith}
use mathlib.Core.Path.{◌≡◌, refl, ◌∙◌}
use borrow.Author.Tests.{eq-eqb, ne_eqb}
use Rattle.figures.specs.Millionths.{significand, scale}
use Rattle.figures.proofs.count_millionths.Goals as goal

pub returns-then-e-eq0 : goal.returns-then-e-eq0
unfolding significand scale
returns-then-e-eq0 c = (c.shifted.ensures.0 ∙ rw (eq-eqb _ _ c.if-e-eq0.true) refl, c.shifted.ensures.1)

pub returns : goal.returns
unfolding significand scale
returns c =
    let b = c.args.b in
    let e : 10 + (1065 - b / 4503599627370496) ≡ 1075 - b / 4503599627370496 = omega (arith, c.requires) in
    (c.shifted-2.ensures.0 ∙ rw (ne_eqb _ _ c.if-e-eq0.false, e) refl, c.shifted-2.ensures.1)
