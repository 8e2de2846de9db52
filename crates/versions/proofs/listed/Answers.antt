-- The cases of the listing. Assumes nothing.
use Rattle.std.proofs.Common.{sym, ap, ◌∙◌}
use Rattle.refusal.specs.declared.Refusal.TheVariants as Refusal
use Rattle.refusal.specs.Refusals.{number_of}
use Rattle.refusal.proofs.Numbers.{same_refusal}
use Rattle.text.proofs.Lays.{laid_as}
use Rattle.text.specs.Pieces.{end}
use Rattle.versions.proofs.Lists.{list-lines, list-none, list-refused}
use Rattle.versions.proofs.listed.Goals as goal

pub returns-in-Ok : goal.returns-in-Ok
returns-in-Ok c = laid_as (list-lines _ _ (sym c.look_up.ensures ∙ c.in-Ok.is)) c.lines.ensures

pub returns-in-NoVersion : goal.returns-in-NoVersion
returns-in-NoVersion c =
    let a = c.in-Err in
    laid_as (list-none c.args.s.now a.refusal (sym c.look_up.ensures ∙ a.is) (ap number_of c.in-NoVersion.is)) end

pub returns-in_default : goal.returns-in_default
returns-in_default c =
    let a = c.in-Err in
    laid_as (list-refused c.args.s.now a.refusal (sym c.look_up.ensures ∙ a.is) (λ z. c.in_default.not-NoVersion (same_refusal a.refusal Refusal.NoVersion z))) c.refused.ensures
