-- `root::by_digits` meets its contract. The invariant, after i turns: a * 4 ^ i is s * s + rem, followed by the rest. Assumes nothing.
use Rattle.std.proofs.Common.{◌≡◌, ℕ, ◌+◌, ◌-◌, ◌*◌, ◌^◌, ◌<◌, ◌≤◌}
use Rattle.root.proofs.by_digits.Given as goal

abbrev pub Inv : (a rest rem s i : ℕ) → Type 0
Inv a rest rem s i = (a * 4 ^ i ≡ (s * s + rem) * 18014398509481984 + rest) × (rest < 18014398509481984) × (rem ≤ 2 * s) × (s < 2 ^ i) × (i ≤ 54)

abbrev pub invariant-loop-i : goal.invariant-loop-i
invariant-loop-i l = Inv l.a l.rest l.rem l.s l.i

abbrev pub decreases-loop-i : goal.decreases-loop-i
decreases-loop-i l = 54 - l.i
