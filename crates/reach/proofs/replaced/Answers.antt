-- `reach::replaced` meets its contract. At the loop's head what is left to do from W comes to the whole; the measure is `left`. Assumes nothing.
use Prim.Native.Nat.{ℕ, zero, suc, ◌≤◌, ◌<◌, ◌-◌}
use mathlib.Core.Path.{◌≡◌, sym, ◌∙◌}
use mathlib.Core.Bool.{true, false, not}
use native.Mathlib.Omega.{arith}
use lib.Ieee.{Float}
use Rattle.real.specs.F64.{◌⊕◌, ◌⊗◌, ◌≤ᶠ◌, ◌<ᶠ◌, f0}
use Rattle.root.specs.Root.{root_of}
use Rattle.reach.specs.declared.Arc.{Arc}
use Rattle.table.specs.declared.Name.TheVariants.{W, Radicand}
use Rattle.table.specs.declared.Limit.TheVariants.{AtLeast}
use Rattle.table.specs.declared.Limit.TheVariants as L
use Rattle.reach.specs.Reach.{over_by, replaced_of, ended_at}
use mathlib.Core.Path.{ap}
use Rattle.reach.proofs.replaced.Goals as goal

module _ (a : Arc) (rootp w : Float) where
  none_left : (n : ℕ) → n ≡ 0 → replaced_of n a rootp w ≡ ended_at a rootp w
  unfolding replaced_of
  none_left n e = rw e

  negative : (n : ℕ) → 0 < n → not (f0 ≤ᶠ w ⊗ w ⊕ a.alpha) ≡ true → replaced_of n a rootp w ≡ over_by Radicand (w ⊗ w ⊕ a.alpha) (AtLeast f0)
  unfolding replaced_of
  negative zero p e = absurd (omega arith)
  negative (suc n) p e = rw e

  not-above : (n : ℕ) (r : Float) → 0 < n → not (f0 ≤ᶠ w ⊗ w ⊕ a.alpha) ≡ false → r ≡ root_of (w ⊗ w ⊕ a.alpha) → not (f0 <ᶠ w ⊕ r) ≡ true → replaced_of n a rootp w ≡ over_by W (w ⊕ r) (L.Over f0)
  unfolding replaced_of
  not-above zero r p e h k = absurd (omega arith)
  not-above (suc n) r p e h k = rw (e, ← h, k)

  one_more : (n : ℕ) (r : Float) → 0 < n → not (f0 ≤ᶠ w ⊗ w ⊕ a.alpha) ≡ false → r ≡ root_of (w ⊗ w ⊕ a.alpha) → not (f0 <ᶠ w ⊕ r) ≡ false → replaced_of n a rootp w ≡ replaced_of (n - 1) a rootp (w ⊕ r)
  unfolding replaced_of
  one_more zero r p e h k = absurd (omega arith)
  one_more (suc n) r p e h k = let q : suc n - 1 ≡ n = omega arith in rw (e, ← h, k, q)

pub returns-then-not-radicand : goal.returns-then-not-radicand
returns-then-not-radicand c =
    let a = c.args in
    let p : 0 < c.loop-left.left = omega arith in
    c.over.ensures ∙ sym (negative a.a a.rootp c.loop-left.w c.loop-left.left p (ap not c.if-not-radicand.true)) ∙ c.loop-left.invariant.1

pub returns-then-not-w : goal.returns-then-not-w
returns-then-not-w c =
    let a = c.args in
    let p : 0 < c.loop-left.left = omega arith in
    c.over-then-not-w.ensures
    ∙ sym (not-above a.a a.rootp c.loop-left.w c.loop-left.left _ p (ap not c.if-not-radicand.false) c.square_root-w.ensures (ap not c.if-not-w.true))
    ∙ c.loop-left.invariant.1

pub loop-left-preserved : goal.loop-left-preserved
loop-left-preserved c =
    let a = c.args in
    let p : 0 < c.loop-left.left = omega arith in (
      omega arith,
      sym (one_more a.a a.rootp c.loop-left.w c.loop-left.left _ p (ap not c.if-not-radicand.false) c.square_root-w.ensures (ap not c.if-not-w.false))
          ∙ c.loop-left.invariant.1,
    )

pub returns : goal.returns
returns c =
    let a = c.args in
    let e : c.loop-left.left ≡ 0 = omega arith in
    c.ended.ensures ∙ sym (none_left a.a a.rootp c.loop-left.w c.loop-left.left e) ∙ c.loop-left.invariant.1
