-- `iterator::stride` meets its contract: an odd trial goes by the times where lo is low and hi is high, and halves otherwise. Assumes nothing.
use Prim.Native.Nat.{ℕ, ◌/◌}
use mathlib.Core.Path.{◌≡◌, refl}
use mathlib.Core.List.{[], ◌∷◌}
use borrow.Author.Tests.{eq-eqb, ne_eqb}
use types.Run.{OneOf, miss}
use denote.Enum.Declared.{tag_of}
use lib.Ieee.{Float}
use Rattle.iterator.specs.Rule.{stride_of, by_times}
use Rattle.iterator.specs.declared.Judgement.{Judgement}
use Rattle.iterator.specs.declared.Judgement.TheVariants.{Low, High, Under, Over}
use Rattle.iterator.specs.contracts.Judgement.{the_type}
use borrow.Enum.Refused.{opened}
use Rattle.iterator.proofs.stride.Goals as goal

not_low : (asked : Float) (w : ℕ) (a b : Judgement) → OneOf (1 ∷ 2 ∷ 3 ∷ []) (tag_of the_type a) → w / 2 ≡ by_times asked w a b
unfolding by_times
not_low asked w (Low a) b h = absurd (miss (1 ∷ 2 ∷ 3 ∷ []) 0 tt h)
not_low asked w (High a) b h = refl
not_low asked w Under b h = refl
not_low asked w Over b h = refl

not-high : (asked : Float) (w : ℕ) (a : Float) (b : Judgement) → OneOf (0 ∷ 2 ∷ 3 ∷ []) (tag_of the_type b) → w / 2 ≡ by_times asked w (Low a) b
unfolding by_times
not-high asked w a (High b) h = absurd (miss (0 ∷ 2 ∷ 3 ∷ []) 1 tt h)
not-high asked w a (Low b) h = refl
not-high asked w a Under h = refl
not-high asked w a Over h = refl

pub returns-then-k-eq0 : goal.returns-then-k-eq0
unfolding stride_of
returns-then-k-eq0 c = simp (eq-eqb _ _ c.if-k-eq0.true)

pub returns-in_default : goal.returns-in_default
unfolding stride_of
returns-in_default c =
    let a = c.args in
    simp (ne_eqb _ _ c.if-k-eq0.false) (not_low a.asked a.w a.below a.above (opened c.in_default.in_default-own.keys2))

pub returns-in_default-above : goal.returns-in_default-above
unfolding stride_of
returns-in_default-above c =
    let a = c.args in
    simp (ne_eqb _ _ c.if-k-eq0.false, c.in-Low.is) (not-high a.asked a.w c.in-Low.a a.above (opened c.in_default-above.in_default-above-own.keys2))

pub returns : goal.returns
unfolding stride_of by_times
returns c =
    simp (ne_eqb _ _ c.if-k-eq0.false, c.in-Low.is, c.in-High.is) c.secant.ensures
