-- A bracket and the span that the loop holds of it: the way there and back, and a trial made on either. Assumes nothing.
use Prim.Native.Nat.{◌+◌}
use mathlib.Core.Path.{◌≡◌, refl, ap, ◌∙◌}
use mathlib.Core.Bool.{true, false, cond, true≢false, false≢true}
use lib.IntN.{ℤ}
use Rattle.iterator.specs.declared.Judgement.{Judgement}
use Rattle.iterator.specs.declared.Judgement.TheVariants.{Low, High, Under, Over}
use Rattle.iterator.specs.declared.Bracket.{Bracket}
use Rattle.iterator.specs.Same.{has_time, carried_of}
use Rattle.iterator.specs.Single.{is_below, is_above}
use Rattle.iterator.specs.Run.{narrowed}
use Rattle.trials.specs.declared.Span.{Span}
use Rattle.trials.specs.Span.{bracket_of, span_of}
use Rattle.trials.proofs.Standing.{Standing}

lower-back : (j : Judgement) → is_below j ≡ true → cond (has_time j) (Low (carried_of j)) Under ≡ j
lower-back (Low t) h = refl
lower-back Under h = refl
lower-back (High t) h = absurd (false≢true h)
lower-back Over h = absurd (false≢true h)

upper-back : (j : Judgement) → is_above j ≡ true → cond (has_time j) (High (carried_of j)) Over ≡ j
upper-back (Low t) h = absurd (false≢true h)
upper-back Under h = absurd (false≢true h)
upper-back (High t) h = refl
upper-back Over h = refl

-- a bracket that stands comes back
pub span-back : (s : Bracket) → Standing s → bracket_of (span_of s) ≡ s
span-back s h =
    ap (λ (j : Judgement). record { lo = s.lo; hi = s.hi; below = j; above = cond (has_time s.above) (High (carried_of s.above)) Over; count = s.count })
    (lower-back s.below h.lower)
    ∙ ap (λ (j : Judgement). record { lo = s.lo; hi = s.hi; below = s.below; above = j; count = s.count }) (upper-back s.above h.upper)

pub below-narrows : (s : Span) (n : ℤ) (j : Judgement) → is_below j ≡ true
    → bracket_of (record { lo = n; hi = s.hi; low = has_time j; below = carried_of j; high = s.high; above = s.above; count = s.count + 1 }) ≡ narrowed (bracket_of s) n j
below-narrows s n (Low t) h = refl
below-narrows s n Under h = refl
below-narrows s n (High t) h = absurd (false≢true h)
below-narrows s n Over h = absurd (false≢true h)

pub above-narrows : (s : Span) (n : ℤ) (j : Judgement) → is_below j ≡ false
    → bracket_of (record { lo = s.lo; hi = n; low = s.low; below = s.below; high = has_time j; above = carried_of j; count = s.count + 1 }) ≡ narrowed (bracket_of s) n j
above-narrows s n (Low t) h = absurd (true≢false h)
above-narrows s n Under h = absurd (true≢false h)
above-narrows s n (High t) h = refl
above-narrows s n Over h = refl
