-- The tests in their order; more than 61 bytes are never the front of an unfinished record. Assumes nothing.
use mir.Syntax.{w16}
use mir.Facts.{to_z-of_z}
use native.Mathlib.Omega.{arith}
use mathlib.Core.Path.{◌≡◌, refl, sym, ap, ◌∙◌}
use mathlib.Core.Bool.{false}
use lib.ListN.{take}
use Rattle.session.specs.Limits.{offset_allowed}
use Rattle.stream.proofs.Steps.{not_sound, front_long, long-not-cut}
use Rattle.stream.proofs.is_sound.Goals as goal
use Rattle.stream.proofs.is_sound.Goals.{then-kept-lt62, else-kept-lt62}

pub returns-else-offset_allowed : goal.returns-else-offset_allowed
returns-else-offset_allowed c =
    let a = c.args in
    let l = take a.kept a.room.now in
    elim c.if-kept-lt62.branch [
      | then-kept-lt62 w ↦
          let z = to_z-of_z {w = w16} {z = a.place.offset} (record { sfits = omega arith }) in
          let o : offset_allowed a.place.offset ≡ false = sym (ap offset_allowed z) ∙ sym w.offset_allowed.ensures ∙ sym w.value-is ∙ c.if-offset_allowed.false in
          c.if-offset_allowed.false ∙ rw o refl
      | else-kept-lt62 w ↦
          c.if-offset_allowed.false
          ∙ sym (not_sound a.place l (long-not-cut a.place l (front_long a.kept a.room.now c.requires (omega arith))))
    ]
