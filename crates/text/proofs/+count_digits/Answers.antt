-- How many digits there are, by recursion on how many may still be counted. Assumes nothing.
use Prim.Native.Nat.{◌-◌, ◌/◌}
use native.Mathlib.Omega.{arith}
use mathlib.Core.Path.{sym, ap}
use lib.ListN.{length}
use Rattle.text.proofs.Decimals.{at_most, digits-none, digits-one, digits-longer}
use Rattle.text.proofs.+count_digits.Goals as goal

pub returns-then-left-eq0 : goal.returns-then-left-eq0
returns-then-left-eq0 t c = let a = c.args in sym (ap length (digits-none a.left a.n c.if-left-eq0.true))

pub returns-then-n-lt10 : goal.returns-then-n-lt10
returns-then-n-lt10 t c =
    let a = c.args in
    sym (ap length (digits-one a.left a.n c.if-left-eq0.false c.if-n-lt10.true))

pub overflow_add-result : goal.overflow_add-result
overflow_add-result t c =
    let a = c.args in
    omega (arith, c.count_digits.ensures, at_most (a.left - 1) (a.n / 10), c.ranges.left)

pub returns : goal.returns
returns t c =
    let a = c.args in
    omega (arith, c.count_digits.ensures, digits-longer a.left a.n c.if-left-eq0.false c.if-n-lt10.false)
