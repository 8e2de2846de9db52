-- A refusal leaves the replay as it is; else both vehicles are set anew. Assumes nothing.
use mathlib.Core.Path.{◌≡◌, sym, ap, ◌∙◌}
use Rattle.std.proofs.Common.{rules}
use lib.IntN.{ℤ}
use mir.Syntax.{w64}
use mir.Facts.{to_z-of_z}
use Rattle.replay.specs.Replay.{pair_from, mark_done}
use Rattle.replay.proofs.mark_step.Goals as goal

pub returns-in-Err : goal.returns-in-Err
unfolding mark_done
returns-in-Err c = simp (
  sym (let came : let a = c.args in c.pair_from.result ≡ pair_from a.mu a.p a.r.time = let a = c.args in
      c.pair_from.ensures ∙ ap (λ (z : ℤ). pair_from a.mu a.p z) (to_z-of_z {w = w64} {z = a.r.time} (search rules)) in came) ∙ c.in-Err.is,
  c.refused.ensures,
)

pub returns-in-Ok : goal.returns-in-Ok
unfolding mark_done
returns-in-Ok c = simp (
  sym (let came : let a = c.args in c.pair_from.result ≡ pair_from a.mu a.p a.r.time = let a = c.args in
      c.pair_from.ensures ∙ ap (λ (z : ℤ). pair_from a.mu a.p z) (to_z-of_z {w = w64} {z = a.r.time} (search rules)) in came) ∙ c.in-Ok.is,
  c.off.ensures,
)
