-- `reach::nested` meets its contract. At the loop's head g is the nest of the odd numbers from i on; the measure is i. Assumes nothing.
use Prim.Native.Nat.{ℕ, ◌<◌, ◌-◌, suc}
use mathlib.Core.Path.{◌≡◌, sym, ◌∙◌, ap}
use mathlib.Core.List.{List}
use native.Mathlib.Nat.{le_of_eq}
use lib.ListN.{length, drop, get_or, drop_of_length-le}
use lib.Seq.{drop-cons}
use lib.Ieee.{Float, nan}
use native.Mathlib.Omega.{arith}
use Rattle.real.specs.F64.{◌⊖◌, ◌⊗◌, ◌⊘◌, f1}
use Rattle.reach.specs.Reach.{g_nest, f17}
use Rattle.reach.proofs.nested.Goals as goal

none_left : (y : Float) (l : List Float) (n : ℕ) → length l ≡ n → f1 ⊘ f17 ≡ g_nest y (drop n l)
unfolding g_nest
none_left y l n e = sym (ap (g_nest y) (drop_of_length-le l (le_of_eq e)))

one_more : (y : Float) (l : List Float) (i : ℕ) → 0 < i → i - 1 < length l → f1 ⊘ get_or l (i - 1) nan ⊖ y ⊗ g_nest y (drop i l) ≡ g_nest y (drop (i - 1) l)
unfolding g_nest
one_more y l i p h =
    let e : i ≡ suc (i - 1) = omega arith in
    sym (ap (g_nest y) (drop-cons l (i - 1) nan h) ∙ ap (λ (k : ℕ). f1 ⊘ get_or l (i - 1) nan ⊖ y ⊗ g_nest y (drop k l)) (sym e))

pub loop-i-init : goal.loop-i-init
loop-i-init c = (omega arith, none_left c.args.y c.args.d.now 8 c.requires)

pub loop-i-preserved : goal.loop-i-preserved
loop-i-preserved c =
    let a = c.args in
    let i = c.loop-i.i in
    let p : 0 < i = omega arith in
    let h : i - 1 < length a.d.now = omega (arith, c.requires) in
    (omega arith, rw c.loop-i.invariant.1 (one_more a.y a.d.now i p h))
