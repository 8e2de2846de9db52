-- `elapsed::between` meets its contract: a difference within 2^28 fits. Assumes nothing.
use Rattle.std.specs.Prelude.{Some}
use Rattle.std.proofs.Common.{◌≡◌, ◌-ℤ◌, nat_abs, sym, ap, ◌∙◌, arith, to_z-of_z, w64, SFits, lt-ltb, le-ltb, refl}
use Rattle.elapsed.specs.Elapsed.{elapsed_of}
use Rattle.elapsed.proofs.Raised.{size_is}
use Rattle.elapsed.proofs.Signs.{mag-size}
use Rattle.elapsed.proofs.between.Goals as goal

-- the size that the code looks at
size : (c : goal.Then-apart-gt268435456) → c.apart.result ≡ nat_abs (c.args.to -ℤ c.args.from)
size c = (rw (to_z-of_z c.ranges.from, to_z-of_z c.ranges.to) at c.apart.ensures) ∙ sym (size_is c.args.from c.args.to c.ranges.from.sfits c.ranges.to.sfits)

small : (c : goal.Else-apart-gt268435456) → SFits w64 (c.args.to -ℤ c.args.from)
small c =
    let e = (rw (to_z-of_z c.ranges.from, to_z-of_z c.ranges.to) at c.apart.ensures) ∙ sym (size_is c.args.from c.args.to c.ranges.from.sfits c.ranges.to.sfits) in
    record { sfits = omega (arith, e, mag-size (c.args.to -ℤ c.args.from), c.if-apart-gt268435456.false) }

pub returns-then-apart-gt268435456 : goal.returns-then-apart-gt268435456
unfolding elapsed_of
returns-then-apart-gt268435456 c = rw (lt-ltb _ _ (rw (size c) at c.if-apart-gt268435456.true)) refl

pub overflow_sub-to : goal.overflow_sub-to
overflow_sub-to c = rw (to_z-of_z c.ranges.from, to_z-of_z c.ranges.to) (small c)

pub returns : goal.returns
unfolding elapsed_of
returns c =
    let e = (rw (to_z-of_z c.ranges.from, to_z-of_z c.ranges.to) at c.apart.ensures) ∙ sym (size_is c.args.from c.args.to c.ranges.from.sfits c.ranges.to.sfits) in
    let r = rw (to_z-of_z c.ranges.from, to_z-of_z c.ranges.to, to_z-of_z (small c.before)) at c.nearest_i64_to_f64.ensures in
    rw (le-ltb _ _ (rw e at c.if-apart-gt268435456.false)) (ap Some r)
