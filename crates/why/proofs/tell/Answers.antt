-- `why::tell` meets its contract: by whether the ends are neighbours, then by their judgements. Assumes nothing.
use Rattle.std.specs.Prelude.{Err}
use mathlib.Core.Path.{◌≡◌, refl, sym, ap, ◌∙◌}
use mathlib.Core.Bool.{true, false}
use mathlib.Core.List.{[], ◌∷◌}
use borrow.Author.Rules.{sfits_of}
use denote.Enum.Declared.{tag_of}
use types.Run.{OneOf, miss}
use lib.Ieee.{Float}
use mir.Facts.{to_z-of_z}
use mir.Syntax.{w64}
use Rattle.iterator.specs.Run.{more}
use Rattle.iterator.specs.Single.{more_left}
use Rattle.iterator.specs.declared.Judgement.{Judgement}
use Rattle.iterator.specs.declared.Judgement.TheVariants.{Low, High, Under, Over}
use Rattle.iterator.specs.declared.Bracket.{Bracket}
use Rattle.iterator.specs.contracts.Judgement.{the_type}
use Rattle.iterator.proofs.Grids.{ends-back}
use Rattle.problem.specs.Stops.{stop_of}
use Rattle.problem.specs.declared.Problem.{Problem}
use Rattle.reason.specs.Reasons.{Stop}
use Rattle.reason.specs.declared.Reason.TheVariants as R
use Rattle.why.specs.Why.{short_by, long_by, told_by, told_of}
use borrow.Enum.Refused.{opened}
use Rattle.why.proofs.tell.Goals as goal

-- the lets that fail know the other cases
not_low : (problem : Problem) (s : Bracket) (a b : Judgement) → OneOf (1 ∷ 2 ∷ 3 ∷ []) (tag_of the_type a) → Err (short_by problem s) ≡ told_by problem s a b
unfolding told_by
not_low problem s (Low t) b h = absurd (miss (1 ∷ 2 ∷ 3 ∷ []) 0 tt h)
not_low problem s (High t) b h = refl
not_low problem s Under b h = refl
not_low problem s Over b h = refl

not-high : (problem : Problem) (s : Bracket) (t : Float) (b : Judgement) → OneOf (0 ∷ 2 ∷ 3 ∷ []) (tag_of the_type b) → Err (long_by problem s) ≡ told_by problem s (Low t) b
unfolding told_by
not-high problem s t (High u) h = absurd (miss (0 ∷ 2 ∷ 3 ∷ []) 1 tt h)
not-high problem s t (Low u) h = refl
not-high problem s t Under h = refl
not-high problem s t Over h = refl

unfinished : (problem : Problem) (s : Bracket) → more s ≡ true → Err (R.NotFinished s) ≡ told_of problem s
unfolding told_of
unfinished problem s h = simp h

finished : (problem : Problem) (s : Bracket) → more s ≡ false → told_by problem s s.below s.above ≡ told_of problem s
unfolding told_of
finished problem s h = simp h

pub returns-then-more_left : goal.returns-then-more_left
returns-then-more_left c =
    let a = c.args in
    unfinished a.problem a.b (sym (let left : c.more_left.result ≡ more c.args.b = c.more_left.ensures
    ∙ ends-back more_left {lo = c.args.b.lo} {hi = c.args.b.hi} (sfits_of c.struct_told-1.given.0.1) (sfits_of c.struct_told-2-1.given.1.0.1)
    ∙ c.requires in left) ∙ c.if-more_left.true)

pub returns-in_default : goal.returns-in_default
returns-in_default c =
    let a = c.args in
    ap Err c.short_of.ensures
    ∙ not_low a.problem a.b a.b.below a.b.above (opened c.in_default.in_default-own.keys2)
    ∙ finished a.problem a.b (sym (let left : c.more_left.result ≡ more c.args.b = c.more_left.ensures
    ∙ ends-back more_left {lo = c.args.b.lo} {hi = c.args.b.hi} (sfits_of c.struct_told-1.given.0.1) (sfits_of c.struct_told-2-1.given.1.0.1)
    ∙ c.requires in left) ∙ c.if-more_left.false)

pub returns-in_default-upper : goal.returns-in_default-upper
returns-in_default-upper c =
    let a = c.args in
    ap (λ (x : Stop). Err (R.TooLong a.b x)) (c.stop_at.ensures ∙ ap (stop_of a.problem) (to_z-of_z {w = w64} {z = a.b.hi} (sfits_of c.struct_told-in_default-upper-1.given.1.0.1)))
    ∙ not-high a.problem a.b c.in-Low.below a.b.above (opened c.in_default-upper.in_default-upper-own.keys2)
    ∙ sym (ap (λ (j : Judgement). told_by a.problem a.b j a.b.above) c.in-Low.is)
    ∙ finished a.problem a.b (sym (let left : c.more_left.result ≡ more c.args.b = c.more_left.ensures
    ∙ ends-back more_left {lo = c.args.b.lo} {hi = c.args.b.hi} (sfits_of c.struct_told-1.given.0.1) (sfits_of c.struct_told-2-1.given.1.0.1)
    ∙ c.requires in left) ∙ c.if-more_left.false)

pub returns : goal.returns
unfolding told_by
returns c =
    let a = c.args in
    simp (to_z-of_z {w = w64} {z = a.b.lo} (sfits_of c.struct_told-3-1.given.0.1), to_z-of_z {w = w64} {z = a.b.hi} (sfits_of c.struct_told-3-1.given.1.0.1))
    (sym (ap (λ (j : Judgement). told_by a.problem a.b j a.b.above) c.in-Low.is ∙ ap (λ (j : Judgement). told_by a.problem a.b (Low c.in-Low.below) j) c.in-High.is)
    ∙ finished a.problem a.b (sym (let left : c.more_left.result ≡ more c.args.b = c.more_left.ensures
    ∙ ends-back more_left {lo = c.args.b.lo} {hi = c.args.b.hi} (sfits_of c.struct_told-1.given.0.1) (sfits_of c.struct_told-2-1.given.1.0.1)
    ∙ c.requires in left) ∙ c.if-more_left.false))
