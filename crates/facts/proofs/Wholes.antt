-- Of whole numbers. Assumes nothing.
use Prim.Native.Nat.{ℕ, ◌≤◌}
use native.Mathlib.Omega.{arith}
use mathlib.Core.Path.{◌≡◌}

-- two constructors of one type are told apart by it
pub zero_one : ◌≡◌ {A = ℕ} 0 1 → ⊥
zero_one e = omega arith

pub nonzero : (k : ℕ) → (k ≡ 0 → ⊥) → 1 ≤ k
nonzero k h = omega (arith, h)
