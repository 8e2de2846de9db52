-- `real::cut` meets its contract: the two tests say that the cast is in range, and out of range `to_unsigned 64` is an end of it.
use Rattle.std.proofs.Common.{T, sym, subst}
use lib.Ieee.{of_bits, neg}
use Rattle.real.proofs.CutLaws.{cut-zero, cut-top}
use Rattle.real.proofs.cut.Goals as goal

pub truncating_f64_to_u64-requires : goal.truncating_f64_to_u64-requires
unfolding of_bits neg
truncating_f64_to_u64-requires c =
    record { lower_bound = subst T (sym c.if-x.true) tt; upper_bound = subst T (sym c.if-x-2.true) tt }

pub returns-then-x : goal.returns-then-x
unfolding of_bits neg
returns-then-x c = cut-top c.args.x c.if-x.true c.if-x-2.false

pub returns : goal.returns
unfolding of_bits neg
returns c = cut-zero c.args.x c.if-x.false
