-- `problem::held` meets its contract: the grid's own ends, and the judge between them. Assumes nothing.
use mathlib.Core.Path.{◌≡◌, sym, ap, ◌∙◌}
use lib.IntN.{ℤ}
use lib.Signed.{lt_z}
use mir.Syntax.{w64}
use mir.Val.{to_z, of_z}
use mir.Facts.{to_z-of_z}
use Rattle.iterator.specs.declared.Bracket.{Bracket}
use Rattle.problem.specs.Problems.{judge_of, start_of, held_of}
use Rattle.problem.proofs.Starts.{read-lo, read-hi}
use Rattle.problem.proofs.held.Goals as goal

pub returns-then-n-s : goal.returns-then-n-s
unfolding held_of
returns-then-n-s c =
    simp (sym (let above-lo : lt_z (to_z w64 (of_z w64 c.start-s.result.lo)) (to_z w64 (of_z w64 c.args.n)) ≡ lt_z (start_of c.args.problem).lo c.args.n = ap (λ (z : ℤ). lt_z z (to_z w64 (of_z w64 c.args.n))) (read-lo c.args.problem c.start-s.ensures) ∙ ap (lt_z (start_of c.args.problem).lo) (to_z-of_z c.ranges.n) in above-lo) ∙ c.if-s-n.true, sym (let below-hi : lt_z (to_z w64 (of_z w64 c.args.n)) (to_z w64 (of_z w64 c.start-s.result.hi)) ≡ lt_z c.args.n (start_of c.args.problem).hi = ap (λ (z : ℤ). lt_z z (to_z w64 (of_z w64 c.start-s.result.hi))) (to_z-of_z c.ranges.n) ∙ ap (lt_z c.args.n) (read-hi c.args.problem c.start-s.ensures) in below-hi) ∙ c.if-n-s.true)
    (c.judge.ensures ∙ ap (judge_of c.args.problem c.args.asked) (to_z-of_z c.ranges.n))

pub returns-then-s-n : goal.returns-then-s-n
unfolding held_of
returns-then-s-n c =
    simp (sym (let above-lo : lt_z (to_z w64 (of_z w64 c.start-s.result.lo)) (to_z w64 (of_z w64 c.args.n)) ≡ lt_z (start_of c.args.problem).lo c.args.n = ap (λ (z : ℤ). lt_z z (to_z w64 (of_z w64 c.args.n))) (read-lo c.args.problem c.start-s.ensures) ∙ ap (lt_z (start_of c.args.problem).lo) (to_z-of_z c.ranges.n) in above-lo) ∙ c.if-s-n.true, sym (let below-hi : lt_z (to_z w64 (of_z w64 c.args.n)) (to_z w64 (of_z w64 c.start-s.result.hi)) ≡ lt_z c.args.n (start_of c.args.problem).hi = ap (λ (z : ℤ). lt_z z (to_z w64 (of_z w64 c.start-s.result.hi))) (to_z-of_z c.ranges.n) ∙ ap (lt_z c.args.n) (read-hi c.args.problem c.start-s.ensures) in below-hi) ∙ c.if-n-s.false) (ap (λ (s : Bracket). s.above) c.start-s.ensures)

pub returns : goal.returns
unfolding held_of
returns c =
    simp (sym (let above-lo : lt_z (to_z w64 (of_z w64 c.start-s.result.lo)) (to_z w64 (of_z w64 c.args.n)) ≡ lt_z (start_of c.args.problem).lo c.args.n = ap (λ (z : ℤ). lt_z z (to_z w64 (of_z w64 c.args.n))) (read-lo c.args.problem c.start-s.ensures) ∙ ap (lt_z (start_of c.args.problem).lo) (to_z-of_z c.ranges.n) in above-lo) ∙ c.if-s-n.false) (ap (λ (s : Bracket). s.below) c.start-s.ensures)
