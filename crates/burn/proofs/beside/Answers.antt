-- `burn::beside` meets its contract. Assumes nothing.
use Rattle.std.specs.Prelude.{Err}
use Rattle.refusal.specs.declared.Refusal.TheVariants as Refusal
use mathlib.Core.Path.{sym, ap, ◌∙◌}
use mathlib.Core.Bool.{Bool, cond}
use Rattle.coelliptic.specs.Coelliptic.{speeds_of}
use Rattle.burn.specs.Burn.{sped_of, beside_of}
use Rattle.burn.proofs.beside.Goals as goal

pub returns-then-p-aa : goal.returns-then-p-aa
unfolding beside_of
returns-then-p-aa c = let a = c.args in
    c.sped.ensures
    ∙ ap (sped_of a.k a.active) c.speeds_of.ensures
    ∙ sym (ap (λ (b : Bool). cond b (sped_of a.k a.active (speeds_of a.k.mu a.p a.ra a.aa)) (Err Refusal.NoOrbit)) c.if-p-aa.true)

pub returns : goal.returns
unfolding beside_of
returns c = rw c.if-p-aa.false
