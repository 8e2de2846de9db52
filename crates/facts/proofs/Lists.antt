-- Of lists of bytes: the front of one, and one of length 0. Assumes nothing.
use Prim.Native.Nat.{ℕ, zero, suc, ◌≤◌, ◌<◌, zero-le}
use native.Mathlib.Omega.{arith}
use mathlib.Core.Path.{◌≡◌, refl, ap}
use mathlib.Core.List.{List, [], ◌∷◌}
use lib.ListN.{length, take}

pub take-most : (n : ℕ) (l : List ℕ) → length (take n l) ≤ n
take-most zero l = zero-le
take-most (suc n) [] = zero-le
take-most (suc n) (x ∷ l) = omega (arith, take-most n l)

pub take_short : (n : ℕ) (l : List ℕ) → length (take n l) < n → take n l ≡ l
take_short zero l h = let w : ⊥ = omega arith in absurd w
take_short (suc n) [] h = refl
take_short (suc n) (x ∷ l) h = ap (λ (z : List ℕ). x ∷ z) (take_short n l (omega arith))

pub empty-list : (l : List ℕ) → length l ≤ 0 → l ≡ []
empty-list [] h = refl
empty-list (x ∷ l) h = let w : ⊥ = omega arith in absurd w
