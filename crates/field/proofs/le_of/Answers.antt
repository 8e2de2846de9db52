-- What is summed is the number of the bytes that have been read, from the last one on. Assumes nothing.
use native.Mathlib.Omega.{arith}
use mathlib.Core.Path.{◌≡◌, ◌∙◌}
use lib.ListN.{length}
use Rattle.std.proofs.lemmas.List.{length_push, length-reverse}
use Rattle.std.proofs.lemmas.Iterator.Adapters.{YieldsList-from_rev_slice}
use Rattle.std.proofs.lemmas.Iterator.Consumers.{YieldsList-turn, YieldsList-end}
use Rattle.field.proofs.Fields.{le-none, le-all, more-there, le-more, below-more, below-seven}
use Rattle.field.proofs.le_of.Goals as goal

pub overflow_mul-v : goal.overflow_mul-v
overflow_mul-v c =
    let t = YieldsList-turn (YieldsList-from_rev_slice c.args.p.now cc) c.loop-b.yielded _ c.loop-b.yielded_by _ _ c.in-Some.b c.in-Some.is c.next.ensures.steps in
    let i = c.loop-b.invariant in
    let h = more-there c.args.p.now (length c.loop-b.yielded) c.in-Some.b.now t in
    omega (arith, below-seven (length c.loop-b.yielded) c.loop-b.v (omega (arith, h, i.short)) i.below)

pub overflow_add-v : goal.overflow_add-v
overflow_add-v c =
    let t = YieldsList-turn (YieldsList-from_rev_slice c.args.p.now cc) c.loop-b.yielded _ c.loop-b.yielded_by _ _ c.in-Some.b c.in-Some.is c.next.ensures.steps in
    let i = c.loop-b.invariant in
    let h = more-there c.args.p.now (length c.loop-b.yielded) c.in-Some.b.now t in
    omega (arith, below-seven (length c.loop-b.yielded) c.loop-b.v (omega (arith, h, i.short)) i.below)

pub loop-b-preserved : goal.loop-b-preserved
loop-b-preserved c =
    let t = YieldsList-turn (YieldsList-from_rev_slice c.args.p.now cc) c.loop-b.yielded _ c.loop-b.yielded_by _ _ c.in-Some.b c.in-Some.is c.next.ensures.steps in
    let i = c.loop-b.invariant in
    let n = length c.loop-b.yielded in
    let b = c.in-Some.b.now in
    let h = more-there c.args.p.now n b t in
    let m = length_push c.loop-b.yielded c.in-Some.b in
    record {
      can_next = tt;
      is_finite = tt;
      inside = omega (arith, h, m);
      short = i.short;
      value = le-more c.args.p.now n b t _ c.loop-b.v m i.value;
      below = below-more n _ c.loop-b.v b m i.below (omega arith);
    }

pub loop-b-init : goal.loop-b-init
loop-b-init c =
    record {
      can_next = tt;
      is_finite = tt;
      inside = omega arith;
      short = c.requires;
      value = le-none c.args.p.now;
      below = omega arith;
    }

pub returns : goal.returns
returns c =
    let t = YieldsList-end (YieldsList-from_rev_slice c.args.p.now cc) c.loop-b.yielded _ c.loop-b.yielded_by _ _ c.in-None.is c.next.ensures.steps in
    let i = c.loop-b.invariant in
    let n : length c.loop-b.yielded ≡ length c.args.p.now = t.1 ∙ length-reverse c.args.p.now in
    record { value = le-all c.args.p.now _ c.loop-b.v n i.value; upper_bound = rw n at i.below }
