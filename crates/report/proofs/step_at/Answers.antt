-- Each answer of the reader by its line. Assumes nothing.
use mir.Syntax.{w16}
use mir.Facts.{to_z-of_z}
use native.Mathlib.Omega.{arith}
use Rattle.report.specs.declared.Next.TheVariants.{At, Done}
use Rattle.report.proofs.Fillings.{stepped}
use Rattle.report.proofs.step_at.Goals as goal

pub returns-in-Record : goal.returns-in-Record
returns-in-Record c =
    let z = to_z-of_z {w = w16} {z = c.in-Record.behind.offset} (record { sfits = omega arith }) in
    rw (← c.in-Record.ensures) (stepped (At c.in-Record.behind) c.requires (rw z at c.record_line.ensures) c.unwrap_or-length.ensures)

pub returns-in-Refused : goal.returns-in-Refused
returns-in-Refused c =
    rw (← c.in-Refused.ensures) (stepped Done c.requires (rw c.number.ensures.value at c.refused_line.ensures) c.unwrap_or-length-in-Refused.ensures)
