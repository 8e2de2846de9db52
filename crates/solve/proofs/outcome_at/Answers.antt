-- `solve::outcome_at` meets its contract: a let that fails knows the other cases. Assumes nothing.
use mathlib.Core.Path.{◌≡◌, refl}
use mathlib.Core.List.{[], ◌∷◌}
use borrow.Author.Rules.{sfits_of}
use denote.Enum.Declared.{tag_of}
use types.Run.{OneOf, miss}
use lib.Ieee.{Float}
use mir.Facts.{to_z-of_z}
use mir.Syntax.{w64}
use Rattle.iterator.specs.declared.Judgement.{Judgement}
use Rattle.iterator.specs.declared.Judgement.TheVariants.{Low, High, Under, Over}
use Rattle.iterator.specs.declared.Bracket.{Bracket}
use Rattle.iterator.specs.contracts.Judgement.{the_type}
use Rattle.solve.specs.Answers.{outcome_by}
use Rattle.solve.specs.declared.Outcome.TheVariants.{TooLong, TooShort}
use borrow.Enum.Refused.{opened}
use Rattle.solve.proofs.outcome_at.Goals as goal

not_low : (size asked : Float) (s : Bracket) (a b : Judgement) → OneOf (1 ∷ 2 ∷ 3 ∷ []) (tag_of the_type a) → TooShort ≡ outcome_by size asked s a b
unfolding outcome_by
not_low size asked s (Low t) b h = absurd (miss (1 ∷ 2 ∷ 3 ∷ []) 0 tt h)
not_low size asked s (High t) b h = refl
not_low size asked s Under b h = refl
not_low size asked s Over b h = refl

not-high : (size asked : Float) (s : Bracket) (t : Float) (b : Judgement) → OneOf (0 ∷ 2 ∷ 3 ∷ []) (tag_of the_type b) → TooLong ≡ outcome_by size asked s (Low t) b
unfolding outcome_by
not-high size asked s t (High u) h = absurd (miss (0 ∷ 2 ∷ 3 ∷ []) 1 tt h)
not-high size asked s t (Low u) h = refl
not-high size asked s t Under h = refl
not-high size asked s t Over h = refl

pub returns-in_default : goal.returns-in_default
returns-in_default c =
    let a = c.args in
    not_low a.size a.asked a.s a.s.below a.s.above (opened c.in_default.in_default-own.keys2)

pub returns-in_default-above : goal.returns-in_default-above
returns-in_default-above c =
    let a = c.args in
    simp c.in-Low.is (not-high a.size a.asked a.s c.in-Low.t a.s.above (opened c.in_default-above.in_default-above-own.keys2))

pub returns : goal.returns
unfolding outcome_by
returns c =
    let a = c.args in
    simp (c.in-Low.is, c.in-High.is, c.grade_of-grade.ensures, c.standard_fractions.ensures, to_z-of_z {w = w64} {z = a.s.lo} (sfits_of c.struct_told-1.given.0.1))
