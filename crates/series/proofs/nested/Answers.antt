-- `series::nested` meets its contract. At the loop's head p is the nest of the divisors from i on; the measure is i. Assumes nothing.
use Prim.Native.Nat.{ℕ, ◌<◌, ◌-◌, suc}
use mathlib.Core.Path.{◌≡◌, sym, ◌∙◌, ap}
use mathlib.Core.List.{List}
use native.Mathlib.Nat.{le_of_eq}
use lib.ListN.{length, drop, get_or, drop_of_length-le}
use lib.Seq.{drop-cons}
use lib.Ieee.{Float, nan}
use native.Mathlib.Omega.{arith}
use Rattle.real.specs.F64.{◌⊖◌, ◌⊗◌, ◌⊘◌, f1}
use Rattle.series.specs.Series.{nest}
use Rattle.series.proofs.nested.Goals as goal

none_left : (x : Float) (l : List Float) (n : ℕ) → length l ≡ n → f1 ≡ nest x (drop n l)
unfolding nest
none_left x l n e = sym (ap (nest x) (drop_of_length-le l (le_of_eq e)))

one_more : (x : Float) (l : List Float) (i : ℕ) → 0 < i → i - 1 < length l → f1 ⊖ x ⊗ nest x (drop i l) ⊘ get_or l (i - 1) nan ≡ nest x (drop (i - 1) l)
unfolding nest
one_more x l i p h =
    let e : i ≡ suc (i - 1) = omega arith in
    sym (ap (nest x) (drop-cons l (i - 1) nan h) ∙ ap (λ (k : ℕ). f1 ⊖ x ⊗ nest x (drop k l) ⊘ get_or l (i - 1) nan) (sym e))

pub loop-i-init : goal.loop-i-init
loop-i-init c = (omega arith, none_left c.args.xi c.args.d.now 8 c.requires)

pub loop-i-preserved : goal.loop-i-preserved
loop-i-preserved c =
    let a = c.args in
    let i = c.loop-i.i in
    let p : 0 < i = omega arith in
    let h : i - 1 < length a.d.now = omega (arith, c.requires) in
    (omega arith, rw c.loop-i.invariant.1 (one_more a.xi a.d.now i p h))
