-- `iterator::same_time` meets its contract: a NaN first, then the bits. Assumes nothing.
use mathlib.Core.Path.{sym, subst}
use lib.Dec.{T}
use Rattle.real.proofs.Patterns.{not-nan}
use Rattle.iterator.proofs.Sames.{first-nan, second-nan, by_bits}
use Rattle.iterator.proofs.same_time.Goals as goal

pub returns-then-x : goal.returns-then-x
returns-then-x c = first-nan c.args.x c.args.y c.if-x.true

pub returns-then-y : goal.returns-then-y
returns-then-y c = second-nan c.args.x c.args.y c.if-x.false c.if-y.true

pub float_to_bits-a : goal.float_to_bits-a
float_to_bits-a c = not-nan c.args.x c.if-x.false

pub float_to_bits-b : goal.float_to_bits-b
float_to_bits-b c = not-nan c.args.y c.if-y.false

pub returns : goal.returns
returns c =
    by_bits c.args.x c.args.y (subst T (sym c.well_formed.0.1) tt) (subst T (sym c.well_formed.1.0.1) tt)
