-- Bounds on the operations of f64: a result whose exact value is a whole number up to 2 ^ 53 or less in size is finite, and no larger than that number.
-- Assumes nothing.
use Rattle.std.proofs.Common.{◌≡◌, ℕ, zero, suc, ◌+◌, ◌-◌, ◌*◌, ◌^◌, ◌<◌, ◌≤◌, Bool, true, false, cond, ◌&&◌, ◌||◌, T, eqb, ltb, ℤ, pos, sym, refl, ap, ◌∙◌, subst, inl, inr, le_trans, le_of_eq, le_of_lt, mul-le-mul_right, zero-lt-suc, mul_assoc, mul_comm, add-mul, mul-le-mul, eq-or-lt_of_le, mul-le-mul_left, mul-pos, one-mul, mul-one, mul_right_comm, le_of_mul-le-mul_right, arith, lit≤, eqb→eq, ltb→lt, lt→ltb}
use native.Mathlib.Nat.{mul-mul-mul_comm}
use mathlib.Core.Bool.{beq}
use lib.Dec.{eqb-suc-zero}
use lib.Ieee as Ieee
use lib.Ieee.{Float, nan, inf, fin, Format, binary64, up, down, odd, units, round, sum, add, mul, div, le, lt, eq, neg, is_nan}
use lib.Ieee.Exact.{HasValue}
use lib.Ieee.Order.{round_mono}
use lib.Ieee.Back.{round_whole}
use lib.Ieee.Fits.{round_is, up_pos, down_pos, and_i, eq→eqb}
use Rattle.facts.proofs.Truth.{or_left, or_right}
use Rattle.real.specs.F64.{◌⊕◌, ◌⊖◌, ◌⊗◌, ◌⊘◌, ◌≤ᶠ◌, finite}

-- x is finite, and a or less in size
abbrev pub Within : Float → ℕ → Type 0
Within nan a = ⊥
Within (inf s) a = ⊥
Within (fin s m e) a = m * up e ≤ a * down e

-- x is finite, not zero, and k or more in size
abbrev pub AtLeast : Float → ℕ → Type 0
AtLeast nan k = ⊥
AtLeast (inf s) k = ⊥
AtLeast (fin s zero e) k = ⊥
AtLeast (fin s (suc m) e) k = k * down e ≤ suc m * up e

pub within-finite : (x : Float) (a : ℕ) → Within x a → finite x ≡ true
within-finite nan a h = absurd h
within-finite (inf s) a h = absurd h
within-finite (fin s m e) a h = refl

pub wider : (x : Float) (a b : ℕ) → a ≤ b → Within x a → Within x b
wider nan a b l h = absurd h
wider (inf s) a b l h = absurd h
wider (fin s m e) a b l h = le_trans h (mul-le-mul_right (down e) l)

-- ---- a rounded size does not depend on the sign

-- the sign of x, which is no NaN
abbrev pub Signed : Float → Bool → Type 0
Signed nan s = ⊥
Signed (inf t) s = t ≡ s
Signed (fin t m e) s = t ≡ s

odd-signed : (d : ℕ) (s : Bool) (q k l : ℕ) → Signed (odd d s q k l) s
unfolding odd
odd-signed d s zero k l = refl
odd-signed d s (suc q) k l = refl

units-signed : (f : Format) (s : Bool) (q k : ℕ) → Signed (units f s q k) s
unfolding units
units-signed f s q k = go (ltb (q * 2 ^ k) (2 ^ (Ieee.low f + suc (Ieee.emax f))))
  where
    go : (b : Bool) → Signed (cond b (odd (suc (Ieee.prec f)) s q k (Ieee.low f)) (inf s)) s
    go true = odd-signed (suc (Ieee.prec f)) s q k (Ieee.low f)
    go false = refl

pub round-signed : (f : Format) (s : Bool) (n d : ℕ) → Signed (round f s n d) s
round-signed f s n d = subst (λ (x : Float). Signed x s) (sym (round_is f s n d)) (units-signed f s _ _)

-- so what is rounded is no NaN
pub round-no-nan : (f : Format) (s : Bool) (n d : ℕ) → is_nan (round f s n d) ≡ false
round-no-nan f s n d = go (round f s n d) (round-signed f s n d)
  where
    go : (x : Float) → Signed x s → is_nan x ≡ false
    go nan h = absurd h
    go (inf t) h = unfold is_nan in refl
    go (fin t m e) h = unfold is_nan in refl

odd-within : (d : ℕ) (s : Bool) (q k l a : ℕ) → Within (odd d false q k l) a → Within (odd d s q k l) a
unfolding odd
odd-within d s zero k l a h = h
odd-within d s (suc q) k l a h = h

units-within : (f : Format) (s : Bool) (q k a : ℕ) → Within (units f false q k) a → Within (units f s q k) a
unfolding units
units-within f s q k a = go (ltb (q * 2 ^ k) (2 ^ (Ieee.low f + suc (Ieee.emax f))))
  where
    go : (b : Bool) → Within (cond b (odd (suc (Ieee.prec f)) false q k (Ieee.low f)) (inf false)) a → Within (cond b (odd (suc (Ieee.prec f)) s q k (Ieee.low f)) (inf s)) a
    go true h = odd-within (suc (Ieee.prec f)) s q k (Ieee.low f) a h
    go false h = h

pub round-within : (f : Format) (s : Bool) (n d a : ℕ) → Within (round f false n d) a → Within (round f s n d) a
round-within f s n d a h =
    subst (λ (x : Float). Within x a) (sym (round_is f s n d))
    (units-within f s _ _ a (subst (λ (x : Float). Within x a) (round_is f false n d) h))

-- ---- what `le` says of two sizes

either : (p q : Bool) (A : Type 0) → (T p → A) → (T q → A) → T (p || q && true) → A
either true q A f g t = f tt
either false true A f g t = g tt
either false false A f g t = absurd t

pub or_cases : (a b : ℕ) → T (ltb a b || eqb a b && true) → a ≤ b
or_cases a b t = either (ltb a b) (eqb a b) (a ≤ b) (λ u. le_of_lt (ltb→lt a b u)) (λ u. le_of_eq (eqb→eq a b u)) t

pub or-cases' : (a b : ℕ) → T (ltb b a || eqb a b && true) → b ≤ a
or-cases' a b t = either (ltb b a) (eqb a b) (b ≤ a) (λ u. le_of_lt (ltb→lt b a u)) (λ u. le_of_eq (sym (eqb→eq a b u))) t

pub at_most : (a b : ℕ) → a ≤ b → T (ltb a b || eqb a b && true)
at_most a b h = elim (eq-or-lt_of_le h) [
  | inl e ↦ or_right (ltb a b) (eqb a b && true) (and_i (eqb a b) true (eq→eqb e) tt)
  | inr l ↦ or_left (ltb a b) (eqb a b && true) (lt→ltb a b l)
]

-- ---- a fraction of at most a, rounded

pub cross : (m n a e d : ℕ) → 0 < d → m * d ≤ n * e → n * 1 ≡ a * d → m ≤ a * e
cross m n a e d p h v =
    le_of_mul-le-mul_right
    (subst (λ (k : ℕ). m * d ≤ k) (ap (λ (k : ℕ). k * e) (sym (mul-one n) ∙ v) ∙ mul_right_comm a d e) h)
    p

pub below-whole : (x y : Float) (a : ℕ) → Signed x false → T (le x y) → HasValue y false a 1 → Within x a
unfolding le lt eq
below-whole nan y a s t h = absurd s
below-whole (inf b) nan a s t h = absurd h
below-whole (inf b) (inf u) a s t h = absurd h
below-whole (inf true) (fin u n d) a s t h = absurd (subst T s tt)
below-whole (inf false) (fin u n d) a s t h = absurd t
below-whole (fin b m e) nan a s t h = absurd h
below-whole (fin b m e) (inf u) a s t h = absurd h
below-whole (fin true m e) (fin u n d) a s t h = absurd (subst T s tt)
below-whole (fin false m e) (fin true n d) a s t h = absurd (subst T h.0 tt)
below-whole (fin false m e) (fin false n d) a s t h = cross (m * up e) (n * up d) a (down e) (down d) (down_pos d) (or_cases (m * up e * down d) (n * up d * down e) t) h.1

pub round-below : (s : Bool) (n d a : ℕ) → a ≤ 2 ^ 53 → 0 < d → n ≤ a * d → Within (round binary64 s n d) a
round-below s n d a b p h =
    round-within binary64 s n d a
    (below-whole (round binary64 false n d) (round binary64 false a 1) a (round-signed binary64 false n d)
    (round_mono binary64 n d a 1 p (lit≤ tt) (simp mul-one h))
    (round_whole binary64 false a b))

-- and one of at least 1
pub round-from-1 : (n d : ℕ) → 0 < d → d ≤ n → T (fin false 1 (pos 0) ≤ᶠ round binary64 false n d)
unfolding round
round-from-1 n d p h = round_mono binary64 1 1 n d (lit≤ tt) p (omega arith)

-- ---- the operations

pub mul-within : (x y : Float) (a b : ℕ) → a * b ≤ 2 ^ 53 → Within x a → Within y b → Within (x ⊗ y) (a * b)
unfolding mul
mul-within nan y a b l h k = absurd h
mul-within (inf s) y a b l h k = absurd h
mul-within (fin s m e) nan a b l h k = absurd k
mul-within (fin s m e) (inf t) a b l h k = absurd k
mul-within (fin s m e) (fin t n d) a b l h k =
    round-below (Ieee.unlike s t) (m * up e * (n * up d)) (down e * down d) (a * b) l (mul-pos (down_pos e) (down_pos d))
    (subst (λ (z : ℕ). m * up e * (n * up d) ≤ z) (mul-mul-mul_comm a (down e) b (down d)) (mul-le-mul h k))

sum-within : (s t : Bool) (A B C a b : ℕ) → a + b ≤ 2 ^ 53 → 0 < C → A ≤ a * C → B ≤ b * C → Within (sum binary64 s A t B C) (a + b)
unfolding sum
sum-within s t A B C a b l p h k = go (beq s t) (ltb A B)
  where
    go : (u v : Bool) → Within (cond u (round binary64 s (A + B) C) (cond v (round binary64 t (B - A) C) (round binary64 (s && ltb B A) (A - B) C))) (a + b)
    go true v = round-below s (A + B) C (a + b) l p (omega (arith, add-mul a b C))
    go false true = round-below t (B - A) C (a + b) l p (omega (arith, add-mul a b C))
    go false false = round-below (s && ltb B A) (A - B) C (a + b) l p (omega (arith, add-mul a b C))

pub add-within : (x y : Float) (a b : ℕ) → a + b ≤ 2 ^ 53 → Within x a → Within y b → Within (x ⊕ y) (a + b)
unfolding add
add-within nan y a b l h k = absurd h
add-within (inf s) y a b l h k = absurd h
add-within (fin s m e) nan a b l h k = absurd k
add-within (fin s m e) (inf t) a b l h k = absurd k
add-within (fin s m e) (fin t n d) a b l h k =
    sum-within s t (m * up e * down d) (n * up d * down e) (down e * down d) a b l (mul-pos (down_pos e) (down_pos d))
    (subst (λ (z : ℕ). m * up e * down d ≤ z) (mul_assoc a (down e) (down d)) (mul-le-mul_right (down d) h))
    (subst (λ (z : ℕ). n * up d * down e ≤ z) (mul_assoc b (down d) (down e) ∙ ap (λ (z : ℕ). b * z) (mul_comm (down d) (down e))) (mul-le-mul_right (down e) k))

pub neg-within : (x : Float) (a : ℕ) → Within x a → Within (neg x) a
unfolding neg
neg-within nan a h = absurd h
neg-within (inf s) a h = absurd h
neg-within (fin s m e) a h = h

pub sub_within : (x y : Float) (a b : ℕ) → a + b ≤ 2 ^ 53 → Within x a → Within y b → Within (x ⊖ y) (a + b)
unfolding Ieee.sub
sub_within x y a b l h k = add-within x (neg y) a b l h (neg-within y b k)

-- x is at most k * a in size, and y at least k
pub div-within : (x y : Float) (k a : ℕ) → a ≤ 2 ^ 53 → Within x (k * a) → AtLeast y k → Within (x ⊘ y) a
unfolding div
div-within nan y k a l h g = absurd h
div-within (inf s) y k a l h g = absurd h
div-within (fin s m e) nan k a l h g = absurd g
div-within (fin s m e) (inf t) k a l h g = absurd g
div-within (fin s m e) (fin t zero d) k a l h g = absurd g
div-within (fin s m e) (fin t (suc n) d) k a l h g =
    let N = suc n * up d in
    let same : k * a * down e * down d ≡ a * (k * down d * down e) =
    ap (λ (z : ℕ). z * down e * down d) (mul_comm k a) ∙ mul_right_comm (a * k) (down e) (down d)
    ∙ ap (λ (z : ℕ). z * down e) (mul_assoc a k (down d)) ∙ mul_assoc a (k * down d) (down e) in
    rw (eqb-suc-zero n)
    (round-below (Ieee.unlike s t) (m * up e * down d) (N * down e) a l (mul-pos (up-some n d) (down_pos e))
    (le_trans (mul-le-mul_right (down d) h) (le_trans (le_of_eq same) (mul-le-mul_left a (mul-le-mul_right (down e) g)))))
  where
    up-some : (n : ℕ) (d : ℤ) → 0 < suc n * up d
    up-some n d = mul-pos (zero-lt-suc n) (up_pos d)

pub div-kept : (x y : Float) (a : ℕ) → a ≤ 2 ^ 53 → Within x a → AtLeast y 1 → Within (x ⊘ y) a
div-kept x y a l h g = div-within x y 1 a l (subst (λ (z : ℕ). Within x z) (sym (one-mul a)) h) g
