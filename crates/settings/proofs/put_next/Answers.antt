-- A version that has room stands behind the used part. Assumes nothing.
use Prim.Native.Nat.{ℕ, ◌+◌, ◌/◌}
use native.Mathlib.Omega.{arith}
use mathlib.Core.Path.{refl, ap, ◌∙◌}
use mathlib.Core.List.{◌++◌}
use lib.ListN.{take, drop}
use borrow.Author.Tests.{le-leb, lt-leb, lt-ltb, le-ltb}
use Rattle.text.proofs.Lays.{all_fit}
use Rattle.settings.specs.Layout.{version_bytes}
use Rattle.settings.specs.History.{buffer_after}
use Rattle.settings.proofs.Versions.{version-length}
use Rattle.settings.proofs.put_next.Goals as goal

pub returns-then-n-ge64 : goal.returns-then-n-ge64
unfolding buffer_after
returns-then-n-ge64 c = (rw (le-leb _ _ c.if-n-ge64.true) refl, refl)

pub returns-then-buf-e : goal.returns-then-buf-e
unfolding buffer_after
returns-then-buf-e c = (rw (lt-leb _ _ c.if-n-ge64.false, lt-ltb _ _ c.if-buf-e.true) refl, refl)

pub returns : goal.returns
unfolding buffer_after
returns c =
    let a = c.args in
    let d = a.buf.now in
    let k = a.used / 44 + 1 in
    let p = all_fit c.put_version.ensures (omega (arith, version-length k a.x, c.if-buf-e.false)) in (
      rw (lt-leb _ _ c.if-n-ge64.false, le-ltb _ _ c.if-buf-e.false) refl,
      p.whole ∙ ap (λ (r : ℕ). take a.used d ++ (version_bytes k a.x ++ drop r d)) (p.next ∙ ap (λ (n : ℕ). a.used + n) (version-length k a.x)),
    )
