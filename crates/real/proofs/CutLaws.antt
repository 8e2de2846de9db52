-- A float out of the range of a `u64`: what `to_unsigned 64` gives. Assumes nothing.
use Rattle.std.proofs.Common.{◌≡◌, ℕ, zero, suc, ◌+◌, ◌*◌, ◌/◌, ◌<◌, ◌≤◌, min, true, false, ℤ, pos, negsuc, sym, refl, true≢false, le-div_iff_mul-le, arith, pow_pos, ltb-false}
use lib.Ieee.{Float, nan, inf, fin, up, down, lt, to_unsigned}

down_pos : (e : ℤ) → 0 < down e
down_pos (pos k) = omega arith
down_pos (negsuc k) = pow_pos (suc k)

none : {X : Type 0} (a d b : ℕ) → 0 < d → 0 < a → a * d + b ≤ 0 → X
none zero d b p q h = elim q [ ]
none (suc a) zero b p q h = elim p [ ]
none (suc a) (suc d) b p q h = absurd (no a d b h)
  where
    no : (a d b : ℕ) → suc a * suc d + b ≤ 0 → ⊥
    no a d b h = omega arith

-- x is not above -1
pub cut-zero : (x : Float) → lt (fin true 1 (pos 0)) x ≡ false → 0 ≡ to_unsigned 64 x
unfolding lt to_unsigned
cut-zero nan h = refl
cut-zero (inf true) h = refl
cut-zero (inf false) h = absurd (true≢false h)
cut-zero (fin true m e) h = refl
cut-zero (fin false m e) h = absurd (no (down e) (m * up e * 1) (down_pos e) (ltb-false 0 _ h))
  where
    no : (d b : ℕ) → 0 < d → 1 * d + b ≤ 0 → ⊥
    no d b p h = omega arith

capped : (a : ℕ) → 18446744073709551616 ≤ a → 18446744073709551615 ≡ min a 18446744073709551615
capped a h = omega arith

-- x is above -1 and not below 2^64
pub cut-top : (x : Float) → lt (fin true 1 (pos 0)) x ≡ true → lt x (fin false 1 (pos 64)) ≡ false → 18446744073709551615 ≡ to_unsigned 64 x
unfolding lt to_unsigned
cut-top nan g h = absurd (true≢false (sym g))
cut-top (inf true) g h = absurd (true≢false (sym g))
cut-top (inf false) g h = refl
cut-top (fin true m e) g h = absurd (no (m * up e * 1) (down e) (down_pos e) (ltb-false 0 _ h))
  where
    no : (b d : ℕ) → 0 < d → b + 18446744073709551616 * d ≤ 0 → ⊥
    no b d p h = omega arith
cut-top (fin false m e) g h = capped (m * up e / down e) ((le-div_iff_mul-le (down_pos e)).1 (at (m * up e) (down e) (ltb-false _ _ h)))
  where
    at : (b d : ℕ) → 18446744073709551616 * d ≤ b * 1 → 18446744073709551616 * d ≤ b
    at b d h = omega arith
