-- Bounds on a root, whether or not its argument is written in the one way. Assumes nothing.
use Rattle.std.proofs.Common.{◌≡◌, ℕ, zero, suc, ◌+◌, ◌-◌, ◌*◌, ◌/◌, ◌^◌, ◌<◌, ◌≤◌, Bool, true, false, T, ltb, ℤ, sym, refl, ap, ◌∙◌, subst, le_trans, le_of_eq, lt_of_lt_of_le, lt_of_le_of_lt, le_of_lt, mul-le-mul_right, zero-lt-suc, mul_assoc, mul_comm, div-lt_iff_lt-mul, mul-le-mul_left, mul-pos, le-div_iff_mul-le, mul-one, mul_right_comm, le_of_mul-le-mul_right, arith, ltb→lt, pow_pos, pow_mono, pow-add}
use native.Mathlib.Nat.{mul-mul-mul_comm}
use lib.Pow.{pow-lt}
use lib.Ieee.{Float, nan, inf, fin, binary64, up, down, size, units, odd}
use lib.Ieee.Digits.{size-lt, size_reaches}
use lib.Ieee.Fits.{down_pos}
use lib.Ieee.Exact.{HasValue, units_val}
use Rattle.root.specs.Root.{whole_root, in_units, root_units, root_of}
use Rattle.root.proofs.Digits.{root-le, square-next}
use Rattle.root.proofs.Roots.{IsWholeRoot, whole-root-is, four-square, four-pow}
use Rattle.real.proofs.Powers.{Up, Over}

square_le : (a b : ℕ) → a * a ≤ b * b → a ≤ b
square_le a b h = root-le a b (b * b) h (omega (arith, square-next b))

-- ---- the digits that an f64 drops of a root

module _ (v : ℕ) (some : 0 < v) where
  abbrev k : ℕ
  k = (size v + 1) / 2 - 53

  abbrev n : ℕ
  n = 4 * v / 4 ^ k

  abbrev s : ℕ
  s = whole_root 54 n

  abbrev q : ℕ
  q = (s + 1) / 2

  four-pos : 0 < 4 ^ k
  four-pos = subst (λ (x : ℕ). 0 < x) (sym (four-pow k)) (pow_pos (k * 2))

  -- 4v is below 4 ^ k of 2 ^ 108
  narrow : n < 4 ^ 54
  narrow =
      (div-lt_iff_lt-mul four-pos).1
      (lt_of_lt_of_le (four-lt v (2 ^ size v) (size-lt v))
      (le_trans (le_of_eq (sym (pow-add 2 2 (size v))))
      (le_trans (pow_mono (room (size v))) (le_of_eq (pow-add 2 108 (k * 2) ∙ ap (λ (x : ℕ). 2 ^ 108 * x) (sym (four-pow k)))))))
    where
      four-lt : (a b : ℕ) → a < b → 4 * a < 2 ^ 2 * b
      four-lt a b h = omega arith

      room : (z : ℕ) → 2 + z ≤ 108 + ((z + 1) / 2 - 53) * 2
      room z = omega arith

  is : IsWholeRoot n s
  is = whole-root-is 54 n narrow

  -- 4 ^ k is at most v, so that s is not 0
  some-digits : 0 < size v
  some-digits = go (size v) (size-lt v)
    where
      go : (z : ℕ) → v < 2 ^ z → 0 < z
      go zero h = absurd (no v some h)
        where
          no : (v : ℕ) → 0 < v → v < 1 → ⊥
          no v p h = omega arith
      go (suc z) h = zero-lt-suc z

  reached : 4 ^ k ≤ v
  reached = le_trans (le_of_eq (four-pow k)) (size_reaches v (k * 2) (room (size v) some-digits))
    where
      room : (z : ℕ) → 0 < z → ((z + 1) / 2 - 53) * 2 < z
      room z h = omega arith

  not_none : 1 ≤ n
  not_none = (le-div_iff_mul-le four-pos).1 (four-le (4 ^ k) v reached)
    where
      four-le : (a b : ℕ) → a ≤ b → 1 * a ≤ 4 * b
      four-le a b h = omega arith

  s-some : 1 ≤ s
  s-some = root-le 1 s n not_none is.1

  squared : (a : ℕ) → a * 2 ^ k * (a * 2 ^ k) ≡ a * a * 4 ^ k
  squared a = mul-mul-mul_comm a (2 ^ k) a (2 ^ k) ∙ ap (λ (x : ℕ). a * a * x) (sym (four-square k))

  -- the root of at most y * y is at most 2 * y
  pub upper : (y : ℕ) → v ≤ y * y → q * 2 ^ k ≤ 2 * y
  upper y h =
      le_trans (mul-le-mul_right (2 ^ k) (half s s-some))
      (square_le (s * 2 ^ k) (2 * y)
      (le_trans (le_of_eq (squared s))
      (le_trans (mul-le-mul_right (4 ^ k) is.0)
      (le_trans ((le-div_iff_mul-le four-pos).0 (le_of_eq refl))
      (le_trans (mul-le-mul_left 4 h) (le_of_eq (sym (mul-mul-mul_comm 2 y 2 y))))))))
    where
      half : (s : ℕ) → 1 ≤ s → (s + 1) / 2 ≤ s
      half s h = omega arith

  -- and the root of at least 4 * (y * y) is at least y
  pub lower : (y : ℕ) → 4 * (y * y) ≤ v → y ≤ q * 2 ^ k
  lower y h =
      quarter y (q * 2 ^ k)
      (le_trans (square_le (4 * y) ((s + 1) * 2 ^ k)
      (le_trans (le_of_eq (mul-mul-mul_comm 4 y 4 y))
      (le_trans (sixteen (y * y) v h)
      (le_trans (le_of_lt ((div-lt_iff_lt-mul four-pos).0 is.1)) (le_of_eq (sym (squared (s + 1))))))))
      (le_trans (mul-le-mul_right (2 ^ k) (half s s-some)) (le_of_eq (mul_assoc 4 q (2 ^ k)))))
    where
      quarter : (a b : ℕ) → 4 * a ≤ 4 * b → a ≤ b
      quarter a b h = omega arith

      sixteen : (a v : ℕ) → 4 * a ≤ v → 4 * 4 * a ≤ 4 * v
      sixteen a v h = omega arith

      half : (s : ℕ) → 1 ≤ s → s + 1 ≤ 4 * ((s + 1) / 2)
      half s h = omega arith

-- ---- in the terms of the value

value-up : (x : Float) (a j : ℕ) → HasValue x false a (2 ^ 1074) → a ≤ 2 ^ j * 2 ^ 1074 → Up x j
value-up nan a j h l = absurd h
value-up (inf s) a j h l = absurd h
value-up (fin true m e) a j h l = absurd (subst T h.0 tt)
value-up (fin false m e) a j h l =
    le_of_mul-le-mul_right (le_trans (le_of_eq h.1) (le_trans (mul-le-mul_right (down e) l) (le_of_eq (mul_right_comm (2 ^ j) (2 ^ 1074) (down e))))) (pow_pos 1074)

value-over : (x : Float) (a j : ℕ) → HasValue x false a (2 ^ 1074) → 2 ^ 1074 ≤ a * 2 ^ j → Over x j
value-over nan a j h l = absurd h
value-over (inf s) a j h l = absurd h
value-over (fin true m e) a j h l = absurd (subst T h.0 tt)
value-over (fin false m e) a j h l =
    le_of_mul-le-mul_right
    (le_trans (le_of_eq (mul_comm (down e) (2 ^ 1074)))
    (le_trans (mul-le-mul_right (down e) l)
    (le_of_eq (mul_right_comm a (2 ^ j) (down e) ∙ ap (λ (z : ℕ). z * 2 ^ j) (sym h.1) ∙ mul_right_comm (m * up e) (2 ^ 1074) (2 ^ j)))))
    (pow_pos 1074)

units-over : (q k j : ℕ) → 2 ^ 1074 ≤ q * 2 ^ k * 2 ^ j → Over (units binary64 false q k) j
units-over q k j l = go (ltb (q * 2 ^ k) (2 ^ 2098)) refl
  where
    go : (b : Bool) → ltb (q * 2 ^ k) (2 ^ 2098) ≡ b → Over (units binary64 false q k) j
    go true e = value-over (units binary64 false q k) (q * 2 ^ k) j (units_val binary64 false q k (ltb→lt (q * 2 ^ k) (2 ^ 2098) (subst T (sym e) tt))) l
    go false e = unfold units in rw e tt

-- x is 4 or more: its root is 1 or more
pub root_over : (m : ℕ) (e : ℤ) → 4 * down e ≤ m * up e → Over (root_of (fin false m e)) 0
unfolding root_of root_units
root_over zero e h = absurd (no (down e) (up e) (down_pos e) h)
  where
    no : (d u : ℕ) → 0 < d → 4 * d ≤ 0 * u → ⊥
    no d u p h = omega arith
root_over (suc m) e h =
    let i : 4 * 2 ^ 1074 ≤ in_units (suc m) e =
    (le-div_iff_mul-le (down_pos e)).1 (le_trans (le_of_eq (mul_right_comm 4 (2 ^ 1074) (down e))) (mul-le-mul_right (2 ^ 1074) h)) in
    let w : 4 * (2 ^ 1074 * 2 ^ 1074) ≤ in_units (suc m) e * 2 ^ 1074 = le_trans (le_of_eq (sym (mul_assoc 4 (2 ^ 1074) (2 ^ 1074)))) (mul-le-mul_right (2 ^ 1074) i) in
    units-over _ _ 0
    (le_trans (lower (in_units (suc m) e * 2 ^ 1074) (lt_of_lt_of_le (mul-pos (zero-lt-suc 3) (mul-pos (pow_pos 1074) (pow_pos 1074))) w) (2 ^ 1074) w) (le_of_eq (sym (mul-one _))))

-- x is 1 or more: its root is a half or more
pub root-half : (x : Float) → Over x 0 → Over (root_of x) 1
unfolding root_of root_units
root-half nan h = absurd h
root-half (inf true) h = absurd h
root-half (inf false) h = tt
root-half (fin true m e) h = absurd h
root-half (fin false zero e) h = absurd (no (down e) (up e) (down_pos e) h)
  where
    no : (d u : ℕ) → 0 < d → d ≤ 0 * u * 1 → ⊥
    no d u p h = omega arith
root-half (fin false (suc m) e) h =
    let i : 2 ^ 1074 ≤ in_units (suc m) e =
    (le-div_iff_mul-le (down_pos e)).1 (le_trans (le_of_eq (mul_comm (2 ^ 1074) (down e))) (mul-le-mul_right (2 ^ 1074) (le_trans h (le_of_eq (mul-one (suc m * up e)))))) in
    let w : 4 * (2 ^ 1073 * 2 ^ 1073) ≤ in_units (suc m) e * 2 ^ 1074 = le_trans (le_of_eq refl) (mul-le-mul_right (2 ^ 1074) i) in
    units-over _ _ 1
    (mul-le-mul_right 2 (lower (in_units (suc m) e * 2 ^ 1074) (lt_of_lt_of_le (mul-pos (zero-lt-suc 3) (mul-pos (pow_pos 1073) (pow_pos 1073))) w) (2 ^ 1073) w))

units-up : (q k j : ℕ) → j < 1024 → q * 2 ^ k ≤ 2 ^ j * 2 ^ 1074 → Up (units binary64 false q k) j
units-up q k j i l =
    value-up (units binary64 false q k) (q * 2 ^ k) j
    (units_val binary64 false q k (lt_of_le_of_lt l (lt_of_le_of_lt (le_of_eq (sym (pow-add 2 j 1074))) (pow-lt (room j i)))))
    l
  where
    room : (j : ℕ) → j < 1024 → j + 1074 < 2098
    room j h = omega arith

units-root-up : (j v : ℕ) → 1 + j < 1024 → v ≤ 2 ^ j * 2 ^ 1074 * (2 ^ j * 2 ^ 1074) → Up (root_units v) (1 + j)
unfolding root_units whole_root units size odd
units-root-up j zero l h = nothing (2 ^ (1 + j))
  where
    nothing : (p : ℕ) → 0 * 1 ≤ p * 1
    nothing p = omega arith
units-root-up j (suc v) l h =
    units-up _ _ (1 + j) l
    (le_trans (upper (suc v) (zero-lt-suc v) (2 ^ j * 2 ^ 1074) h) (le_of_eq (sym (mul_assoc 2 (2 ^ j) (2 ^ 1074)) ∙ ap (λ (z : ℕ). z * 2 ^ 1074) (sym (pow-add 2 1 j)))))

-- x is at most 2 ^ (j + j): its root is at most 2 ^ (1 + j)
pub root-up : (j : ℕ) (x : Float) → 1 + j < 1024 → Up x (j + j) → Up (root_of x) (1 + j)
unfolding root_of
root-up j nan l h = absurd h
root-up j (inf s) l h = absurd h
root-up j (fin true m e) l h = absurd h
root-up j (fin false zero e) l h = nothing (up e) (2 ^ (1 + j) * down e)
  where
    nothing : (u a : ℕ) → 0 * u ≤ a
    nothing u a = omega arith
root-up j (fin false (suc m) e) l h =
    let i : in_units (suc m) e ≤ 2 ^ (j + j) * 2 ^ 1074 =
    le_of_mul-le-mul_right
    (le_trans ((le-div_iff_mul-le (down_pos e)).0 (le_of_eq refl)) (le_trans (mul-le-mul_right (2 ^ 1074) h) (le_of_eq (mul_right_comm (2 ^ (j + j)) (down e) (2 ^ 1074)))))
    (down_pos e) in
    units-root-up j (in_units (suc m) e * 2 ^ 1074) l
    (le_trans (mul-le-mul_right (2 ^ 1074) i)
    (le_of_eq (mul_assoc (2 ^ (j + j)) (2 ^ 1074) (2 ^ 1074) ∙ ap (λ (z : ℕ). z * (2 ^ 1074 * 2 ^ 1074)) (pow-add 2 j j) ∙ sym (mul-mul-mul_comm (2 ^ j) (2 ^ 1074) (2 ^ j) (2 ^ 1074)))))
