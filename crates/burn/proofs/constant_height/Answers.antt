-- `burn::constant_height` meets its contract. Assumes nothing.
use Rattle.std.specs.Prelude.{Err, Result}
use Rattle.std.proofs.Common.{not, sym, ap, ◌∙◌, to_z-of_z}
use Rattle.std.proofs.lemmas.Result.{err_from_is_err_and}
use borrow.Author.Tests.{lt-ltb, le-ltb, not-true, not-false}
use Rattle.refusal.specs.declared.Refusal.{Refusal}
use Rattle.vector.specs.declared.State.{State}
use Rattle.burn.specs.Burn.{at_time, from_passive, from_active}
use Rattle.burn.proofs.Order.{body_refused, radius-refused, time-refused, inputs-passed}
use Rattle.burn.proofs.constant_height.Goals as goal

pub returns-then-k-gt1 : goal.returns-then-k-gt1
returns-then-k-gt1 c = let a = c.args in
    sym (body_refused a.k a.active a.ta a.passive a.tp a.t2 a.t3 (lt-ltb _ _ c.if-k-gt1.true))

pub returns-then-not-radius_allowed : goal.returns-then-not-radius_allowed
returns-then-not-radius_allowed c = let a = c.args in
    sym (radius-refused a.k a.active a.ta a.passive a.tp a.t2 a.t3 (le-ltb _ _ c.if-k-gt1.false)
    (sym c.radius_allowed.ensures ∙ not-true _ (ap not c.if-not-radius_allowed.true)))

pub returns-then-not-at_least : goal.returns-then-not-at_least
returns-then-not-at_least c =
    let a = c.args in
    let apart = rw (to_z-of_z c.ranges.t2, to_z-of_z c.ranges.t3) at c.at_least.ensures in
    sym (time-refused a.k a.active a.ta a.passive a.tp a.t2 a.t3 (le-ltb _ _ c.if-k-gt1.false)
    (sym c.radius_allowed.ensures ∙ not-false _ (ap not c.if-not-radius_allowed.false))
    (sym apart ∙ not-true _ (ap not c.if-not-at_least.true)))

pub returns-in_err-a : goal.returns-in_err-a
unfolding from_active
returns-in_err-a c =
    let a = c.args in
    let apart = rw (to_z-of_z c.ranges.t2, to_z-of_z c.ranges.t3) at c.at_least.ensures in
    let passed = inputs-passed a.k a.active a.ta a.passive a.tp a.t2 a.t3 (le-ltb _ _ c.if-k-gt1.false)
    (sym c.radius_allowed.ensures ∙ not-false _ (ap not c.if-not-radius_allowed.false))
    (sym apart ∙ not-false _ (ap not c.if-not-at_least.false)) in
    let first = rw (to_z-of_z c.ranges.ta, to_z-of_z c.ranges.t2) at c.at_time.ensures in
    let p = err_from_is_err_and c.from_residual.result c.from_residual.ensures.1 in
    p.1 ∙ ap Err p.2
    ∙ sym (passed ∙ ap (λ (x : Result State Refusal). from_active a.k x (at_time a.k.mu a.passive a.tp a.t2)) (sym first ∙ c.in_err-a.was))

pub returns-in_err-p : goal.returns-in_err-p
unfolding from_active from_passive
returns-in_err-p c =
    let a = c.args in
    let apart = rw (to_z-of_z c.ranges.t2, to_z-of_z c.ranges.t3) at c.at_least.ensures in
    let passed = inputs-passed a.k a.active a.ta a.passive a.tp a.t2 a.t3 (le-ltb _ _ c.if-k-gt1.false)
    (sym c.radius_allowed.ensures ∙ not-false _ (ap not c.if-not-radius_allowed.false))
    (sym apart ∙ not-false _ (ap not c.if-not-at_least.false)) in
    let first = rw (to_z-of_z c.ranges.ta, to_z-of_z c.ranges.t2) at c.at_time.ensures in
    let second = rw (to_z-of_z c.ranges.tp, to_z-of_z c.ranges.t2) at c.at_time-2.ensures in
    let p = err_from_is_err_and c.from_residual-in_err-p.result c.from_residual-in_err-p.ensures.1 in
    p.1 ∙ ap Err p.2
    ∙ sym (passed ∙ ap (λ (x : Result State Refusal). from_active a.k x (at_time a.k.mu a.passive a.tp a.t2)) (sym first ∙ c.in_ok-a.was)
    ∙ ap (from_passive a.k c.in_ok-a.a) (sym second ∙ c.in_err-p.was))

pub returns : goal.returns
unfolding from_active
returns c =
    let a = c.args in
    let apart = rw (to_z-of_z c.ranges.t2, to_z-of_z c.ranges.t3) at c.at_least.ensures in
    let passed = inputs-passed a.k a.active a.ta a.passive a.tp a.t2 a.t3 (le-ltb _ _ c.if-k-gt1.false)
    (sym c.radius_allowed.ensures ∙ not-false _ (ap not c.if-not-radius_allowed.false))
    (sym apart ∙ not-false _ (ap not c.if-not-at_least.false)) in
    let first = rw (to_z-of_z c.ranges.ta, to_z-of_z c.ranges.t2) at c.at_time.ensures in
    let second = rw (to_z-of_z c.ranges.tp, to_z-of_z c.ranges.t2) at c.at_time-2.ensures in
    c.from_both.ensures
    ∙ sym (passed ∙ ap (λ (x : Result State Refusal). from_active a.k x (at_time a.k.mu a.passive a.tp a.t2)) (sym first ∙ c.in_ok-a.was)
    ∙ ap (from_passive a.k c.in_ok-a.a) (sym second ∙ c.in_ok-p.was))
