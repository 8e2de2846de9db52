-- Set or not. Assumes nothing.
use mir.Syntax.{w64}
use mir.Facts.{to_z-of_z}
use borrow.Author.Tests.{eq-eqb, ne_eqb}
use Rattle.held_replay.specs.Held.{vehicle_from}
use Rattle.held_replay.proofs.vehicle_from.Goals as goal

pub returns-then-set-eq0 : goal.returns-then-set-eq0
unfolding vehicle_from
returns-then-set-eq0 c = rw (eq-eqb _ _ c.if-set-eq0.true)

pub returns : goal.returns
unfolding vehicle_from
returns c = rw (ne_eqb _ _ c.if-set-eq0.false, to_z-of_z {w = w64} {z = c.signed-t.result} (record { sfits = c.signed-t.type_inv }), c.body_from-b.ensures, c.signed-t.ensures)
