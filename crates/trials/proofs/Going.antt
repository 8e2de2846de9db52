-- The loop's invariant: the bracket stands, its count has room, and the run from here under the limit is the run from the start.
-- A trial keeps it, and at neighbours, or at the limit, the bracket is the run's. Assumes nothing.
use Prim.Native.Nat.{ℕ, ◌+◌, ◌^◌, ◌≤◌, ◌<◌}
use native.Mathlib.Omega.{arith}
use mathlib.Core.Path.{◌≡◌, sym, ap, ◌∙◌}
use lib.IntN.{ℤ}
use lib.Ieee.{Float}
use Rattle.iterator.specs.Rule.{width_of}
use Rattle.iterator.specs.Run.{next, Ran, run_to}
use Rattle.iterator.specs.declared.Judgement.{Judgement}
use Rattle.iterator.specs.declared.Bracket.{Bracket}
use Rattle.iterator.proofs.Trials.{wide, next-narrower}
use Rattle.iterator.proofs.Limits.{to-done, to-stop, to-more}
use Rattle.trials.proofs.Standing.{Standing, next-stands}

pub record Going (judge : ℤ → Judgement) (asked : Float) (limit : ℕ) (s₀ s : Bracket) : Type 0 where
  pub stands : Standing s
  pub few : s.count + width_of s.lo s.hi < 2 ^ 64
  pub same : run_to judge asked limit s ≡ run_to judge asked limit s₀

pub room : {s : Bracket} → Standing s → s.count + width_of s.lo s.hi < 2 ^ 64 → s.count + 1 < 2 ^ 64
room {s} h f = one s.count (width_of s.lo s.hi) (wide s h.order).some f
  where
    one : (c w : ℕ) → 0 < w → c + w < 2 ^ 64 → c + 1 < 2 ^ 64
    one c w p h = omega arith

module _ (judge : ℤ → Judgement) (asked : Float) (limit : ℕ) (s₀ s : Bracket) (g : Going judge asked limit s₀ s) where
  pub going_next : 1 < width_of s.lo s.hi → s.count < limit → Going judge asked limit s₀ (next judge asked s)
  going_next p k =
      let n = next judge asked s in
      let a = next-narrower judge asked s g.stands.order p in
      record {
        stands = next-stands judge asked s p g.stands;
        few = fewer n.count s.count (width_of n.lo n.hi) (width_of s.lo s.hi) a.1 a.0 g.few;
        same = sym (ap (λ (r : Ran). r.ended) (to-more judge asked limit s p k)) ∙ g.same;
      }
    where
      fewer : (d c v w : ℕ) → d ≡ c + 1 → v < w → c + w < 2 ^ 64 → d + v < 2 ^ 64
      fewer d c v w e l h = omega arith

  pub going-last : width_of s.lo s.hi ≤ 1 → s ≡ run_to judge asked limit s₀
  going-last k = sym (ap (λ (r : Ran). r.ended) (to-done judge asked limit s k)) ∙ g.same

  pub going-stop : limit ≤ s.count → s ≡ run_to judge asked limit s₀
  going-stop k = sym (ap (λ (r : Ran). r.ended) (to-stop judge asked limit s k)) ∙ g.same
