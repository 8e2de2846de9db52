-- Each answer of the reader by its line. Assumes nothing.
use mathlib.Core.Path.{sym, ◌∙◌}
use Rattle.std.proofs.Common.{rules}
use mir.Syntax.{w16}
use mir.Facts.{to_z-of_z}
use Rattle.refusal.specs.Refusals.{number_of}
use Rattle.text.specs.Text.{ascii}
use Rattle.lines.specs.Lines.{refused_pieces}
use Rattle.tracks.specs.Tracks.{record_pieces}
use Rattle.tracks.proofs.Lengths.{refused-fits, record-fits}
use Rattle.account.specs.declared.Next.TheVariants.{At, First}
use Rattle.account.specs.Account.{step_for}
use Rattle.account.proofs.Steps.{made, nothing}
use Rattle.account.proofs.step_at.Goals as goal

pub returns-in-Record : goal.returns-in-Record
unfolding step_for
returns-in-Record c =
    let q = c.in-Record.behind in
    let o = to_z-of_z {w = w16} {z = q.offset} (search rules) in
    rw (sym c.read.ensures ∙ c.in-Record.is, sym c.step-x.ensures)
    (made (record_pieces q.offset c.in-Record.r c.step-x.result.answer) (At q) c.step-x.result.replay c.requires (record-fits q.offset c.in-Record.r c.step-x.result.answer) (rw o at c.«record».ensures))

pub returns-in-Offset : goal.returns-in-Offset
unfolding step_for
returns-in-Offset c =
    let a = c.args in
    rw (sym c.read.ensures ∙ c.in-Offset.is) (nothing a.line.now (At c.in-Offset.after) a.p)

pub returns-in-End : goal.returns-in-End
unfolding step_for
returns-in-End c =
    let a = c.args in
    rw (sym c.read.ensures ∙ c.in-End.is) (nothing a.line.now First a.p)

pub returns-in-Refused : goal.returns-in-Refused
unfolding step_for
returns-in-Refused c =
    let n = number_of c.in-Refused.refusal in
    rw (sym c.read.ensures ∙ c.in-Refused.is)
    (made (refused_pieces (ascii "refused ") n c.in-Refused.at.at) First c.args.p c.requires (refused-fits n c.in-Refused.at.at) (rw c.number.ensures.value at c.refused_at.ensures))
