-- An entry as an i64, and its negative. Assumes nothing.
use Rattle.std.proofs.Common.{◌≡◌, ℕ, zero, suc, ◌<◌, ℤ, pos, ◌-ℤ◌, neg_ℤ, sym, ap, ◌∙◌, subst, arith, to_z-of_z, w64, SFits, to_z, of_z}
use lib.IntN.{+ℤ_idl}
use mir.Facts.{to_z_pos}

pub plain : (n : ℕ) → n < 4294967296 → to_z w64 n ≡ pos n
plain n h = to_z_pos w64 {n = n} (omega arith)

turned : (n : ℕ) → n < 4294967296 → pos 0 -ℤ to_z w64 n ≡ neg_ℤ (pos n)
turned n h = ap (λ (z : ℤ). pos 0 -ℤ z) (plain n h) ∙ +ℤ_idl (neg_ℤ (pos n))

small : (n : ℕ) → n < 4294967296 → SFits w64 (neg_ℤ (pos n))
small zero h = record { sfits = omega arith }
small (suc n) h = record { sfits = omega arith }

pub negative_fits : (n : ℕ) → n < 4294967296 → SFits w64 (pos 0 -ℤ to_z w64 n)
negative_fits n h = subst (λ (z : ℤ). SFits w64 z) (sym (turned n h)) (small n h)

pub negative : (n : ℕ) → n < 4294967296 → to_z w64 (of_z w64 (pos 0 -ℤ to_z w64 n)) ≡ neg_ℤ (pos n)
negative n h = to_z-of_z {w = w64} {z = pos 0 -ℤ to_z w64 n} (negative_fits n h) ∙ turned n h
