-- `root::places` meets its contract: m is not 0, so it has a highest digit, of place j, and the zeros above it make 64 with j + 1. Assumes nothing.
use Rattle.std.proofs.Common.{◌≡◌, ℕ, suc, ◌+◌, ◌-◌, ◌*◌, ◌^◌, ◌<◌, ◌≤◌, subst, le_trans, le_of_eq, lt_of_le_of_lt, mul-le-mul_right, arith, pow-add, shl_lt}
use lib.Count.{count_leading_zeros, leading_top}
use Rattle.root.proofs.Digits.{pow_below}
use Rattle.root.proofs.places.Goals as goal

module _ (m : ℕ) (some : 0 < m) (few : m < 9007199254740992) where
  abbrev z : ℕ
  z = count_leading_zeros 64 m

  top : (j : ℕ) × (z + suc j ≡ 64) × (2 ^ j ≤ m) × (m < 2 ^ suc j)
  top = leading_top 64 m some (room m few)
    where
      room : (m : ℕ) → m < 9007199254740992 → m < 2 ^ 64
      room m h = omega arith

  eleven : 11 ≤ z
  eleven = go top.0 top.1 (pow_below top.0 53 (lt_of_le_of_lt top.2 few))
    where
      go : (j : ℕ) → z + suc j ≡ 64 → j < 53 → 11 ≤ z
      go j e h = omega arith

  moved : (4503599627370496 ≤ m * 2 ^ (z - 11)) × (m * 2 ^ (z - 11) < 9007199254740992)
  moved = go top.0 (z - 11) (low top.0 z top.1 eleven) (high top.0 z top.1 eleven) top.2 top.3
    where
      low : (j z : ℕ) → z + suc j ≡ 64 → 11 ≤ z → j + (z - 11) ≡ 52
      low j z e h = omega arith

      high : (j z : ℕ) → z + suc j ≡ 64 → 11 ≤ z → suc j + (z - 11) ≡ 53
      high j z e h = omega arith

      go : (j c : ℕ) → j + c ≡ 52 → suc j + c ≡ 53 → 2 ^ j ≤ m → m < 2 ^ suc j → (4503599627370496 ≤ m * 2 ^ c) × (m * 2 ^ c < 9007199254740992)
      go j c e f lo hi = (
        subst (λ (x : ℕ). 2 ^ x ≤ m * 2 ^ c) e (le_trans (le_of_eq (pow-add 2 j c)) (mul-le-mul_right (2 ^ c) lo)),
        subst (λ (x : ℕ). m * 2 ^ c < 2 ^ x) f (shl_lt {a = m} (suc j) c hi),
      )

pub overflow_sub-result : goal.overflow_sub-result
overflow_sub-result c = eleven c.args.m c.requires.0 c.requires.1

pub returns : goal.returns
returns c = moved c.args.m c.requires.0 c.requires.1
