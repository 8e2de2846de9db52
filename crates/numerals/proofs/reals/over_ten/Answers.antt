-- `over_ten`: ten to at most 15 fits.
use Rattle.std.proofs.Common.{◌^◌, ◌≤◌, arith, lit<}
use native.Mathlib.Nat.{pow-le-pow_right}
use Rattle.numerals.proofs.reals.over_ten.Goals as goal

pub pow-requires : goal.pow-requires
pow-requires c =
    let h : c.args.k ≤ 15 = c.requires in
    let l : 10 ^ c.args.k ≤ 10 ^ 15 = pow-le-pow_right {n = 10} (lit< tt) h in
    omega arith
