-- `trials::iterate` meets its contract: the invariant says that the run from here, under the limit, is the run from the start; the measure is the width of the bracket. Assumes nothing.
use Prim.Native.Nat.{◌+◌, ◌≤◌, ◌<◌, ◌^◌}
use mathlib.Core.Path.{◌≡◌, refl, sym, ap, ◌∙◌, subst}
use lib.IntN.{ℤ}
use mir.Syntax.{w64}
use mir.Val.{SFits, to_z, of_z}
use mir.Facts.{to_z-of_z}
use Rattle.iterator.specs.Rule.{width_of}
use Rattle.iterator.specs.Run.{narrowed, next, run_to}
use Rattle.iterator.specs.declared.Judgement.{Judgement}
use Rattle.iterator.specs.declared.Bracket.{Bracket}
use Rattle.iterator.proofs.Grids.{point-fits}
use Rattle.iterator.proofs.Trials.{next-narrower}
use Rattle.problem.specs.Problems.{judge_of}
use Rattle.trials.specs.Span.{bracket_of}
use Rattle.trials.proofs.Standing.{Standing, standing, standing-grid}
use Rattle.trials.proofs.Spans.{span-back}
use Rattle.trials.proofs.Going.{Going, going_next, going-last, going-stop}
use Rattle.trials.proofs.iterate.Goals as goal

given : (c : goal.After-span_of-s) → Standing c.args.start
given c = let p = c.requires in standing c.args.start p.on_grid p.lower_end p.upper_end

-- the loop starts at the bracket that was given
started : (c : goal.After-span_of-s) → bracket_of c.span_of-s.result ≡ c.args.start
started c = ap bracket_of c.span_of-s.ensures ∙ span-back c.args.start (given c)

-- the bracket after a trial is the run's
is-next : (c : goal.After-narrow-s) →
    let a = c.args in
    bracket_of c.narrow-s.result ≡ next (judge_of a.problem a.asked) a.asked (bracket_of c.loop-s.s)
is-next c =
    let a = c.args in
    let s = bracket_of c.loop-s.s in
    let n = c.point-n.result in
    let e = c.point-n.ensures in
    let f : SFits w64 n = subst (SFits w64) (sym e) (point-fits a.asked s.below s.above (s.count + 1) (standing-grid c.loop-s.invariant.stands) (let wide : 1 < width_of c.loop-s.s.lo c.loop-s.s.hi = subst (λ w. 1 < w) c.width-w.ensures c.if-w-le1.false in wide)) in
    c.narrow-s.ensures
    ∙ ap (λ (j : Judgement). narrowed s (to_z w64 (of_z w64 n)) j) c.judge.ensures
    ∙ ap (λ (z : ℤ). narrowed s z (judge_of a.problem a.asked z)) (to_z-of_z f ∙ e)

pub loop-s-init : goal.loop-s-init
loop-s-init c =
    record {
      stands = subst Standing (sym (started c)) (given c);
      few = subst (λ (b : Bracket). b.count + width_of b.lo b.hi < 2 ^ 64) (sym (started c)) c.requires.count_fits;
      same = refl;
    }

pub loop-s-smaller : goal.loop-s-smaller
loop-s-smaller c =
    let a = c.args in
    let s = bracket_of c.loop-s.s in
    subst (λ (r : Bracket). width_of r.lo r.hi < width_of s.lo s.hi) (sym (is-next c))
    (next-narrower (judge_of a.problem a.asked) a.asked s c.loop-s.invariant.stands.order (let wide : 1 < width_of c.loop-s.s.lo c.loop-s.s.hi = subst (λ w. 1 < w) c.width-w.ensures c.if-w-le1.false in wide)).0

pub loop-s-preserved : goal.loop-s-preserved
loop-s-preserved c =
    let a = c.args in
    let s₀ = bracket_of c.span_of-s.result in
    subst (λ (r : Bracket). Going (judge_of a.problem a.asked) a.asked a.limit s₀ r) (sym (is-next c))
    (going_next (judge_of a.problem a.asked) a.asked a.limit s₀ (bracket_of c.loop-s.s) c.loop-s.invariant
    (let wide : 1 < width_of c.loop-s.s.lo c.loop-s.s.hi = subst (λ w. 1 < w) c.width-w.ensures c.if-w-le1.false in wide) c.if-limit-s.false)

pub returns-then-limit-s : goal.returns-then-limit-s
returns-then-limit-s c =
    let a = c.args in
    c.bracket_of.ensures
    ∙ going-stop (judge_of a.problem a.asked) a.asked a.limit (bracket_of c.span_of-s.result) (bracket_of c.loop-s.s) c.loop-s.invariant c.if-limit-s.true
    ∙ ap (run_to (judge_of a.problem a.asked) a.asked a.limit) (started c.before.before.before.before)

pub returns-then-w-le1 : goal.returns-then-w-le1
returns-then-w-le1 c =
    let a = c.args in
    c.bracket_of-then-w-le1.ensures
    ∙ going-last (judge_of a.problem a.asked) a.asked a.limit (bracket_of c.span_of-s.result) (bracket_of c.loop-s.s) c.loop-s.invariant
    (subst (λ w. w ≤ 1) c.width-w.ensures c.if-w-le1.true)
    ∙ ap (run_to (judge_of a.problem a.asked) a.asked a.limit) (started c.before.before.before.before.before.before)
