-- The two halves of the whole numbers: what the test of the sign says, and each number by its magnitude. Assumes nothing.
use Prim.Native.Nat.{ℕ, zero, suc, zero-le, suc-le-suc}
use native.Mathlib.Nat.{zero-add}
use native.Mathlib.Omega.{arith}
use mathlib.Core.Path.{◌≡◌, refl, sym, ap}
use mathlib.Core.Bool.{true, false, true≢false}
use borrow.Author.Tests.{le-ltb}
use lib.IntN.{ℤ, pos, negsuc, ◌-ℤ◌}
use lib.Signed.{mag, lt_z}
use Rattle.signs.specs.Sign.{negative}

pub minus_one : (k : ℕ) → negsuc 0 -ℤ pos k ≡ negsuc k
minus_one zero = refl
minus_one (suc k) = ap (λ (n : ℕ). negsuc (suc n)) (zero-add k)

-- a test of the sign
pub negative-test : (z : ℤ) → lt_z z (pos 0) ≡ negative z
negative-test (pos n) = le-ltb n 0 zero-le
negative-test (negsuc n) = refl

pub mirrored : (z : ℤ) → negative z ≡ true → negsuc 0 -ℤ z ≡ pos (mag z)
mirrored (pos n) t = absurd (true≢false (sym t))
mirrored (negsuc k) t = simp (le-ltb (suc k) 1 (suc-le-suc zero-le)) (ap pos (omega arith))

pub itself : (z : ℤ) → negative z ≡ false → z ≡ pos (mag z)
itself (pos n) t = refl
itself (negsuc k) t = absurd (true≢false t)

pub negated : (z : ℤ) → negative z ≡ true → z ≡ negsuc (mag z)
negated (pos n) t = absurd (true≢false (sym t))
negated (negsuc k) t = refl
