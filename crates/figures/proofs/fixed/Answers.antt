-- `fixed`: x is the number that its bits stand for; the figure is made at the front of a local line and put from there.
use mathlib.Core.Path.{◌≡◌, sym, ap, ◌∙◌, subst}
use lib.Dec.{T}
use lib.Ieee.{binary64, of_bits, to_bits}
use lib.Ieee.Bits.{of_bits-to_bits}
use Rattle.real.proofs.Patterns.{not-nan}
use Rattle.figures.specs.Figures.{fixed_of}
use Rattle.figures.proofs.Places.{front}
use Rattle.figures.proofs.Sizes.{small, large, fixed-nan}
use Rattle.figures.proofs.fixed.Goals as goal

pub returns-then-x : goal.returns-then-x
returns-then-x c = rw (fixed-nan c.args.x c.if-x.true) c.bytes.ensures

pub float_to_bits-b : goal.float_to_bits-b
float_to_bits-b c = not-nan _ c.if-x.false

pub returns-then-size-ge4800837202776948736 : goal.returns-then-size-ge4800837202776948736
returns-then-size-ge4800837202776948736 c =
    let x = c.args.x in
    let a : of_bits binary64 (to_bits binary64 x) ≡ x = of_bits-to_bits binary64 x (subst T (sym c.well_formed.1.1.0.1) tt) in
    let n = rw (sym a) at (not-nan x c.if-x.false) in
    rw (ap fixed_of (sym a) ∙ large (to_bits binary64 x) c.if-size-ge4800837202776948736.true n) c.bytes-then-size-ge4800837202776948736.ensures

pub returns : goal.returns
returns c =
    let x = c.args.x in
    let a : of_bits binary64 (to_bits binary64 x) ≡ x = of_bits-to_bits binary64 x (subst T (sym c.well_formed.1.1.0.1) tt) in
    let f = front c.put_millionths-n.ensures in
    rw (ap fixed_of (sym a) ∙ small (to_bits binary64 x) c.if-size-ge4800837202776948736.false, ← c.count_millionths.ensures.0, ← f) c.bytes-2.ensures
