-- A version in its bytes reads as it was put, whatever stands behind it; and more bytes behind one change nothing. Assumes
-- nothing.
use Rattle.std.specs.Prelude.{None, is_none}
use Prim.Native.Nat.{ℕ, ◌≤◌, ◌<◌, ◌^◌}
use native.Mathlib.Omega.{arith}
use mathlib.Core.Path.{◌≡◌, refl, ap, ◌∙◌}
use mathlib.Core.Bool.{true, ◌&&◌}
use mathlib.Core.List.{List, ◌++◌}
use lib.ListN.{length}
use lib.Dec.{T, eqb}
use lib.Ieee.{Float, binary64, fits, to_bits, of_bits}
use lib.Ieee.Bits.{of_bits-to_bits, of_bits-fits, to_bits-lt}
use borrow.Author.Tests.{eq-eqb}
use Rattle.facts.proofs.Truth.{both}
use Rattle.real.specs.F64.{bits}
use Rattle.field.specs.Bytes.{le, field, bytes_le}
use Rattle.field.proofs.Bytes.{le_bytes}
use Rattle.text.specs.Pieces.{concat}
use Rattle.session.proofs.Stable.{field-more}
use Rattle.settings.specs.declared.allowed.Setting.{Setting}
use Rattle.settings.specs.Allowed.{refusal_of}
use Rattle.settings.specs.Layout.{constant_at, setting_at, is_version, version_bytes, Held}
use Rattle.settings.proofs.Allows.{body-allowed}

-- a setting is what its fields make
same : {b c : ℕ} {m n r t u v w z : Float} → b ≡ c → m ≡ n → r ≡ t → u ≡ v → w ≡ z
    → ◌≡◌ {A = Setting} (record { body = b; mu = m; radius = r; closed = u; fair = w }) (record { body = c; mu = n; radius = t; closed = v; fair = z })
same p q i j l = cc (p, q, i, j, l)

number-back : (y : Float) → T (fits binary64 y) → bits (le (bytes_le 8 (to_bits binary64 y))) ≡ y
number-back y h = ap (of_bits binary64) (le_bytes 8 (to_bits binary64 y) (to_bits-lt binary64 y h)) ∙ of_bits-to_bits binary64 y h

module _ (k : ℕ) (x : Setting) (rest : List ℕ) where
  s : List ℕ
  unfolding concat bytes_le
  s = version_bytes k x ++ rest

  length_back : field 0 2 s ≡ 44
  unfolding concat bytes_le s
  length_back = refl

  kind-back : field 2 2 s ≡ 5
  unfolding concat bytes_le s
  kind-back = refl

  version-back : k < 256 ^ 4 → field 4 4 s ≡ k
  unfolding concat bytes_le s
  version-back h = le_bytes 4 k h

  body_back : x.body < 256 → field 8 1 s ≡ x.body
  unfolding concat bytes_le s
  body_back h = le_bytes 1 x.body h

  zeros-back : field 9 3 s ≡ 0
  unfolding concat bytes_le s
  zeros-back = refl

  mu-back : T (fits binary64 x.mu) → constant_at 12 s ≡ x.mu
  unfolding concat bytes_le s
  mu-back h = number-back x.mu h

  radius-back : T (fits binary64 x.radius) → constant_at 20 s ≡ x.radius
  unfolding concat bytes_le s
  radius-back h = number-back x.radius h

  closed-back : T (fits binary64 x.closed) → constant_at 28 s ≡ x.closed
  unfolding concat bytes_le s
  closed-back h = number-back x.closed h

  fair_back : T (fits binary64 x.fair) → constant_at 36 s ≡ x.fair
  unfolding concat bytes_le s
  fair_back h = number-back x.fair h

  whole_back : Held x → x.body < 256 → setting_at s ≡ x
  whole_back h b = same (body_back b) (mu-back h.0) (radius-back h.1.0) (closed-back h.1.1.0) (fair_back h.1.1.1.0)

  stands-back : Held x → refusal_of x ≡ None → k < 256 ^ 4 → is_version k s ≡ true
  stands-back h z b =
      let e = ap refusal_of (whole_back h (omega (arith, body-allowed x z))) ∙ z in
      both _ _ (both _ _ (both _ _ (both _ _ (eq-eqb _ _ length_back) (eq-eqb _ _ kind-back)) (eq-eqb _ _ (version-back b))) (eq-eqb _ _ zeros-back)) (ap is_none e)

-- the setting that was put
pub setting-back : (k : ℕ) (x : Setting) (rest : List ℕ) → Held x → refusal_of x ≡ None → setting_at (version_bytes k x ++ rest) ≡ x
unfolding s
setting-back k x rest h z = whole_back k x rest h (omega (arith, body-allowed x z))

-- it is an allowed version k
pub is-version-back : (k : ℕ) (x : Setting) (rest : List ℕ) → Held x → refusal_of x ≡ None → k < 256 ^ 4 → is_version k (version_bytes k x ++ rest) ≡ true
unfolding s
is-version-back k x rest h z b = stands-back k x rest h z b

-- a setting that was read is held
pub held_at : (l : List ℕ) → Held (setting_at l)
held_at l =
    (of_bits-fits binary64 (field 12 8 l), (of_bits-fits binary64 (field 20 8 l), (of_bits-fits binary64 (field 28 8 l), (of_bits-fits binary64 (field 36 8 l), tt))))

-- more bytes behind a version
module _ (l t : List ℕ) (h : 44 ≤ length l) where
  pub setting-more : setting_at (l ++ t) ≡ setting_at l
  setting-more =
      same (field-more l t 8 1 (omega arith)) (ap bits (field-more l t 12 8 (omega arith))) (ap bits (field-more l t 20 8 (omega arith))) (ap bits (field-more l t 28 8 (omega arith))) (ap bits (field-more l t 36 8 h))

  pub version-more : (k : ℕ) → is_version k (l ++ t) ≡ is_version k l
  version-more k =
      ap (λ (n : ℕ). eqb n 44 && eqb (field 2 2 (l ++ t)) 5 && eqb (field 4 4 (l ++ t)) k && eqb (field 9 3 (l ++ t)) 0 && is_none (refusal_of (setting_at (l ++ t)))) (field-more l t 0 2 (omega arith))
      ∙ ap (λ (n : ℕ). eqb (field 0 2 l) 44 && eqb n 5 && eqb (field 4 4 (l ++ t)) k && eqb (field 9 3 (l ++ t)) 0 && is_none (refusal_of (setting_at (l ++ t)))) (field-more l t 2 2 (omega arith))
      ∙ ap (λ (n : ℕ). eqb (field 0 2 l) 44 && eqb (field 2 2 l) 5 && eqb n k && eqb (field 9 3 (l ++ t)) 0 && is_none (refusal_of (setting_at (l ++ t)))) (field-more l t 4 4 (omega arith))
      ∙ ap (λ (n : ℕ). eqb (field 0 2 l) 44 && eqb (field 2 2 l) 5 && eqb (field 4 4 l) k && eqb n 0 && is_none (refusal_of (setting_at (l ++ t)))) (field-more l t 9 3 (omega arith))
      ∙ ap (λ (y : Setting). eqb (field 0 2 l) 44 && eqb (field 2 2 l) 5 && eqb (field 4 4 l) k && eqb (field 9 3 l) 0 && is_none (refusal_of y)) setting-more
