-- `problem::on_grid` meets its contract: the two tests; an end reaches them through its bits. Assumes nothing.
use mathlib.Core.Path.{◌≡◌, sym, ap, ◌∙◌}
use lib.IntN.{ℤ}
use lib.Signed.{le_z}
use mir.Syntax.{w64}
use mir.Val.{to_z, of_z}
use mir.Facts.{to_z-of_z}
use Rattle.problem.specs.Problems.{start_of}
use Rattle.problem.specs.Held.{on_grid}
use Rattle.problem.proofs.Starts.{read-lo, read-hi}
use Rattle.problem.proofs.on_grid.Goals as goal

pub returns-then-s-n : goal.returns-then-s-n
unfolding on_grid
returns-then-s-n c =
    simp (sym (let above-lo : le_z (to_z w64 (of_z w64 c.start-s.result.lo)) (to_z w64 (of_z w64 c.args.n)) ≡ le_z (start_of c.args.problem).lo c.args.n = ap (λ (z : ℤ). le_z z (to_z w64 (of_z w64 c.args.n))) (read-lo c.args.problem c.start-s.ensures) ∙ ap (le_z (start_of c.args.problem).lo) (to_z-of_z c.ranges.n) in above-lo) ∙ c.if-s-n.true, to_z-of_z c.ranges.n, read-hi c.args.problem c.start-s.ensures)

pub returns-else-s-n : goal.returns-else-s-n
unfolding on_grid
returns-else-s-n c = simp (sym (let above-lo : le_z (to_z w64 (of_z w64 c.start-s.result.lo)) (to_z w64 (of_z w64 c.args.n)) ≡ le_z (start_of c.args.problem).lo c.args.n = ap (λ (z : ℤ). le_z z (to_z w64 (of_z w64 c.args.n))) (read-lo c.args.problem c.start-s.ensures) ∙ ap (le_z (start_of c.args.problem).lo) (to_z-of_z c.ranges.n) in above-lo) ∙ c.if-s-n.false)
