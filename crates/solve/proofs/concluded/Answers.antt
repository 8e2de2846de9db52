-- `solve::concluded` meets its contract: by whether the ends are neighbours. Assumes nothing.
use mathlib.Core.Path.{◌≡◌, sym, ◌∙◌}
use mathlib.Core.Bool.{true, false}
use lib.Ieee.{Float}
use Rattle.iterator.specs.Run.{more}
use Rattle.iterator.specs.Single.{more_left}
use Rattle.iterator.specs.declared.Bracket.{Bracket}
use Rattle.iterator.proofs.Grids.{ends-back, lo-fits, hi-fits}
use Rattle.iterator.proofs.Single.{sound_of_lem, sound-grid, more-is}
use Rattle.solve.specs.Answers.{outcome_at, concluded_of}
use Rattle.solve.specs.declared.Outcome.TheVariants as O
use Rattle.solve.proofs.concluded.Goals as goal

not-finished : (size asked : Float) (s : Bracket) → more s ≡ true → O.NotFinished s ≡ concluded_of size asked s
unfolding concluded_of
not-finished size asked s h = simp h

finished : (size asked : Float) (s : Bracket) → more s ≡ false → outcome_at size asked s ≡ concluded_of size asked s
unfolding concluded_of
finished size asked s h = simp h

pub returns-then-more_left : goal.returns-then-more_left
returns-then-more_left c =
    let a = c.args in
    not-finished a.size a.asked a.s (sym (let left : c.more_left.result ≡ more c.args.s = let h = sound_of_lem c.args.asked c.args.s c.requires in
    let g = sound-grid h in
    c.more_left.ensures ∙ ends-back more_left (lo-fits g) (hi-fits g) ∙ more-is h in left) ∙ c.if-more_left.true)

pub returns : goal.returns
returns c =
    let a = c.args in
    c.outcome_at.ensures ∙ finished a.size a.asked a.s (sym (let left : c.more_left.result ≡ more c.args.s = let h = sound_of_lem c.args.asked c.args.s c.requires in
    let g = sound-grid h in
    c.more_left.ensures ∙ ends-back more_left (lo-fits g) (hi-fits g) ∙ more-is h in left) ∙ c.if-more_left.false)
