-- A time within −2^28..2^28 is at most 2^28 in size. Assumes nothing.
use mathlib.Core.Path.{◌≡◌, refl, sym, ap, ◌∙◌}
use mathlib.Core.Bool.{Bool, true, false, cond, true≢false}
use lib.Ieee.{Float, neg, of_bits}
use Rattle.facts.proofs.Truth.{and_0, and-1, both}
use Rattle.real.proofs.Order.{mirror, neg-neg}
use Rattle.real.specs.F64.{◌≤ᶠ◌, ◌<ᶠ◌, f0, two^, size_of}
use Rattle.iterator.specs.Judged.{in_time, -2^28}
use Rattle.solve.proofs.Asked.{size-asked}

least : -2^28 ≡ neg (two^ 28)
unfolding of_bits neg
least = refl

turned-in : (t : Float) → in_time (neg t) ≡ true → in_time t ≡ true
unfolding in_time
turned-in t h =
    both (-2^28 ≤ᶠ t) (t ≤ᶠ two^ 28)
    (ap (λ (x : Float). x ≤ᶠ t) least ∙ sym (mirror t (two^ 28)) ∙ and-1 (-2^28 ≤ᶠ neg t) _ h)
    (ap (λ (x : Float). x ≤ᶠ two^ 28) (sym (neg-neg t)) ∙ sym (mirror (two^ 28) (neg t)) ∙ sym (ap (λ (x : Float). x ≤ᶠ neg t) least) ∙ and_0 (-2^28 ≤ᶠ neg t) _ h)

-- a time that is not within −2^28..2^28 is not at most 2^28 in size
pub out-of-time : (t : Float) → in_time t ≡ false → (size_of t ≤ᶠ two^ 28) ≡ false
out-of-time t h = go (size_of t ≤ᶠ two^ 28) refl
  where
    within : (b : Bool) → (t <ᶠ f0) ≡ b → in_time (cond b (neg t) t) ≡ true → in_time t ≡ true
    within true e k = turned-in t k
    within false e k = k

    go : (b : Bool) → (size_of t ≤ᶠ two^ 28) ≡ b → b ≡ false
    go true e = absurd (true≢false (sym (within (t <ᶠ f0) refl (size-asked t e).within) ∙ h))
    go false e = refl
