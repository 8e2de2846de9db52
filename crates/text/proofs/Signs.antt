-- The text of a signed number. Assumes nothing.
use Prim.Native.Nat.{◌+◌, ◌≤◌}
use native.Mathlib.Omega.{arith}
use mathlib.Core.Path.{◌≡◌, refl, sym}
use mathlib.Core.List.{◌∷◌}
use mathlib.Core.Bool.{true, false, true≢false}
use lib.ListN.{length}
use lib.IntN.{ℤ, pos, negsuc}
use lib.Signed.{mag}
use Rattle.signs.specs.Sign.{negative}
use Rattle.text.specs.Text.{decimal, signed_text}
use Rattle.text.proofs.Decimals.{at_most}

-- the text of each half
pub text-neg : (z : ℤ) → negative z ≡ true → signed_text z ≡ 45 ∷ decimal (mag z + 1)
text-neg (pos n) t = absurd (true≢false (sym t))
text-neg (negsuc n) t = refl

pub text-pos : (z : ℤ) → negative z ≡ false → signed_text z ≡ decimal (mag z)
text-pos (pos n) t = refl
text-pos (negsuc n) t = absurd (true≢false t)

-- a sign and twenty digits
pub signed-short : (z : ℤ) → length (signed_text z) ≤ 21
signed-short (pos n) = omega (arith, at_most 20 n)
signed-short (negsuc n) = omega (arith, at_most 20 (n + 1))
