-- A difference of two whole times, by its sign. Assumes nothing.
use Rattle.std.proofs.Common.{◌≡◌, ℕ, ◌≤◌, true, false, leb, ℤ, pos, negsuc, ◌-ℤ◌, ◌≤ℤ◌, ◌<ℤ◌, nat_abs, refl, arith}
use Rattle.std.proofs.lemmas.Int.{ints}
use lib.Signed.{mag, le_z}

-- at least n, where the second is not ahead of the first, and where it is
pub least-later : (a b : ℤ) (n : ℕ) → le_z a b ≡ true → leb n (nat_abs (b -ℤ a)) ≡ le_z (pos n) (b -ℤ a)
least-later a b n h = go (b -ℤ a) (grind (arith, ints))
  where
    go : (z : ℤ) → pos 0 ≤ℤ z → leb n (nat_abs z) ≡ le_z (pos n) z
    go (pos m) h = refl
    go (negsuc m) h = absurd h.le

pub least-earlier : (a b : ℤ) (n : ℕ) → le_z a b ≡ false → le_z (pos n) (b -ℤ a) ≡ false
least-earlier a b n h = go (b -ℤ a) (grind (arith, ints))
  where
    go : (z : ℤ) → z <ℤ pos 0 → le_z (pos n) z ≡ false
    go (pos m) h = let z : ⊥ = omega (arith, ints) in absurd z
    go (negsuc m) h = refl

-- a number is no larger than its size
pub mag-size : (z : ℤ) → mag z ≤ nat_abs z
mag-size (pos n) = omega arith
mag-size (negsuc n) = omega arith
