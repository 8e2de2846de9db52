-- `problem::stop_at` meets its contract: the grid's own ends, and the range tests between them. Assumes nothing.
use mathlib.Core.Path.{◌≡◌, sym, ap, ◌∙◌}
use lib.IntN.{ℤ}
use lib.Signed.{lt_z}
use mir.Syntax.{w64}
use mir.Val.{to_z, of_z}
use mir.Facts.{to_z-of_z}
use Rattle.problem.proofs.Starts.{read-lo, read-hi}
use Rattle.problem.specs.Problems.{start_of}
use Rattle.problem.specs.Stops.{range_at, stop_by, stop_of}
use Rattle.problem.proofs.stop_at.Goals as goal

pub returns-in-Err : goal.returns-in-Err
unfolding stop_of stop_by
returns-in-Err c =
    simp (sym (let above-lo : lt_z (to_z w64 (of_z w64 c.start-s.result.lo)) (to_z w64 (of_z w64 c.args.n)) ≡ lt_z (start_of c.args.problem).lo c.args.n = ap (λ (z : ℤ). lt_z z (to_z w64 (of_z w64 c.args.n))) (read-lo c.args.problem c.start-s.ensures) ∙ ap (lt_z (start_of c.args.problem).lo) (to_z-of_z c.ranges.n) in above-lo) ∙ c.if-s-n.true, sym (let below-hi : lt_z (to_z w64 (of_z w64 c.args.n)) (to_z w64 (of_z w64 c.start-s.result.hi)) ≡ lt_z c.args.n (start_of c.args.problem).hi = ap (λ (z : ℤ). lt_z z (to_z w64 (of_z w64 c.start-s.result.hi))) (to_z-of_z c.ranges.n) ∙ ap (lt_z c.args.n) (read-hi c.args.problem c.start-s.ensures) in below-hi) ∙ c.if-n-s.true)
    (sym (ap stop_by (sym (ap (range_at c.args.problem) (to_z-of_z c.ranges.n)) ∙ sym c.range_test.ensures ∙ c.in-Err.is)))

pub returns-in-Ok : goal.returns-in-Ok
unfolding stop_of stop_by
returns-in-Ok c =
    simp (sym (let above-lo : lt_z (to_z w64 (of_z w64 c.start-s.result.lo)) (to_z w64 (of_z w64 c.args.n)) ≡ lt_z (start_of c.args.problem).lo c.args.n = ap (λ (z : ℤ). lt_z z (to_z w64 (of_z w64 c.args.n))) (read-lo c.args.problem c.start-s.ensures) ∙ ap (lt_z (start_of c.args.problem).lo) (to_z-of_z c.ranges.n) in above-lo) ∙ c.if-s-n.true, sym (let below-hi : lt_z (to_z w64 (of_z w64 c.args.n)) (to_z w64 (of_z w64 c.start-s.result.hi)) ≡ lt_z c.args.n (start_of c.args.problem).hi = ap (λ (z : ℤ). lt_z z (to_z w64 (of_z w64 c.start-s.result.hi))) (to_z-of_z c.ranges.n) ∙ ap (lt_z c.args.n) (read-hi c.args.problem c.start-s.ensures) in below-hi) ∙ c.if-n-s.true)
    (sym (ap stop_by (sym (ap (range_at c.args.problem) (to_z-of_z c.ranges.n)) ∙ sym c.range_test.ensures ∙ c.in-Ok.is)))

pub returns-else-n-s : goal.returns-else-n-s
unfolding stop_of
returns-else-n-s c =
    simp (sym (let above-lo : lt_z (to_z w64 (of_z w64 c.start-s.result.lo)) (to_z w64 (of_z w64 c.args.n)) ≡ lt_z (start_of c.args.problem).lo c.args.n = ap (λ (z : ℤ). lt_z z (to_z w64 (of_z w64 c.args.n))) (read-lo c.args.problem c.start-s.ensures) ∙ ap (lt_z (start_of c.args.problem).lo) (to_z-of_z c.ranges.n) in above-lo) ∙ c.if-s-n.true, sym (let below-hi : lt_z (to_z w64 (of_z w64 c.args.n)) (to_z w64 (of_z w64 c.start-s.result.hi)) ≡ lt_z c.args.n (start_of c.args.problem).hi = ap (λ (z : ℤ). lt_z z (to_z w64 (of_z w64 c.start-s.result.hi))) (to_z-of_z c.ranges.n) ∙ ap (lt_z c.args.n) (read-hi c.args.problem c.start-s.ensures) in below-hi) ∙ c.if-n-s.false)

pub returns-else-s-n : goal.returns-else-s-n
unfolding stop_of
returns-else-s-n c =
    simp (sym (let above-lo : lt_z (to_z w64 (of_z w64 c.start-s.result.lo)) (to_z w64 (of_z w64 c.args.n)) ≡ lt_z (start_of c.args.problem).lo c.args.n = ap (λ (z : ℤ). lt_z z (to_z w64 (of_z w64 c.args.n))) (read-lo c.args.problem c.start-s.ensures) ∙ ap (lt_z (start_of c.args.problem).lo) (to_z-of_z c.ranges.n) in above-lo) ∙ c.if-s-n.false)
