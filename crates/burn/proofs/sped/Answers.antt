-- `burn::sped` meets its contract. Assumes nothing.
use Rattle.std.specs.Prelude.{Err}
use Rattle.refusal.specs.declared.Refusal.TheVariants as Refusal
use mathlib.Core.Path.{sym, ap, ◌∙◌}
use mathlib.Core.Bool.{Bool, cond}
use Rattle.coelliptic.specs.Coelliptic.{new_of}
use Rattle.burn.specs.Burn.{changed_of, sped_of}
use Rattle.burn.proofs.sped.Goals as goal

pub returns-then-v : goal.returns-then-v
unfolding sped_of
returns-then-v c = let a = c.args in
    c.changed.ensures
    ∙ ap (changed_of a.k a.active) c.new_velocity.ensures
    ∙ sym (ap (λ (b : Bool). cond b (changed_of a.k a.active (new_of a.active a.v)) (Err Refusal.NoSpeed)) c.if-v.true)

pub returns : goal.returns
unfolding sped_of
returns c = rw c.if-v.false
