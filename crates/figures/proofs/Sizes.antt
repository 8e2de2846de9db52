-- The size of an f64 by its bits, and what fixed_of says of it. Assumes nothing.
use Prim.Native.Nat.{ℕ, zero, suc, ◌+◌, ◌-◌, ◌*◌, ◌/◌, ◌%◌, ◌^◌, ◌≤◌, ◌<◌}
use native.Mathlib.Nat.{div-eq_of_lt, lt_of_lt_of_le, lt_of_le_of_lt, le_trans, mul-div-mul_right, mul_right_comm, mul-le-mul, mul-le-mul_right, le_of_mul-le-mul_right}
use native.Mathlib.Omega.{arith}
use mathlib.Core.Path.{◌≡◌, refl, sym, ap, ◌∙◌, subst}
use mathlib.Core.List.{◌∷◌}
use mathlib.Core.Bool.{Bool, true, false, cond, not}
use lib.Dec.{T, leb, eqb, lit≤}
use lib.Pow.{shr-shr, shr_le, shl_lt, pow_mono, pow-add, pow_pos, mod-mod-pow}
use lib.Ieee.{Float, nan, inf, fin, binary64, up, down, odd, of_bits, of_fields, to_bits, is_nan, ne}
use lib.Ieee.Compare.{differs_from_itself}
use lib.Ieee.Fits.{down_pos}
use lib.Ieee.Exact.{HasValue, odd_sign}
use lib.Ieee.Nearest.{div_same}
use borrow.Author.Tests.{le-leb, lt-leb, leb-true, ne_eqb}
use Rattle.figures.specs.Figures.{places, nan_text, large_text, millionths, fixed_of, bits_text}
use Rattle.figures.specs.Millionths.{significand, scale, millionths_of}

-- ---- the shift

high : (m : ℕ) → m / 1024 * 1000000 + m % 1024 * 1000000 / 1024 ≡ m * 1000000 / 1024
high m = omega arith

pub shift : (m t : ℕ) → (m / 1024 * 1000000 + m % 1024 * 1000000 / 1024) / 2 ^ t ≡ m * 1000000 / 2 ^ (10 + t)
shift m t = ap (λ (h : ℕ). h / 2 ^ t) (high m) ∙ shr-shr (m * 1000000) 10 t

pub shift_small : (m t : ℕ) → m < 9007199254740992 → (m / 1024 * 1000000 + m % 1024 * 1000000 / 1024) / 2 ^ t < 2 ^ 63
shift_small m t h = lt_of_le_of_lt (shr_le (m / 1024 * 1000000 + m % 1024 * 1000000 / 1024) t) (omega arith)

pub shift_none : (m t : ℕ) → m < 9007199254740992 → 64 ≤ t → 0 ≡ m * 1000000 / 2 ^ (10 + t)
shift_none m t h l =
    let k : m * 1000000 < 2 ^ 74 = omega arith in
    let n : 74 ≤ 10 + t = omega arith in
    sym (div-eq_of_lt (lt_of_lt_of_le k (pow_mono n)))

-- ---- the size as any fraction a / c

same_test : (a b c d : ℕ) → (a ≤ b → c ≤ d) → (c ≤ d → a ≤ b) → leb a b ≡ leb c d
same_test a b c d f g = go (leb a b) (leb c d) refl refl
  where
    go : (x y : Bool) → leb a b ≡ x → leb c d ≡ y → x ≡ y
    go true y p q = sym (le-leb c d (f (leb-true a b p))) ∙ q
    go false false p q = refl
    go false true p q = sym p ∙ le-leb a b (g (leb-true c d q))

-- k * d ≤ m exactly where k * c ≤ a, if m / d is a / c
crossed : (k m d a c : ℕ) → 0 < d → m * c ≡ a * d → k * d ≤ m → k * c ≤ a
crossed k m d a c p e h =
    le_of_mul-le-mul_right
    (subst (λ (z : ℕ). z ≤ a * d) (mul_right_comm k d c) (subst (λ (z : ℕ). k * d * c ≤ z) e (mul-le-mul_right c h)))
    p

pub fixed-by : (v : Float) (s : Bool) (a c : ℕ) → 0 < c → HasValue v s a c
    → fixed_of v ≡ cond (leb (2 ^ 43 * c) a) large_text (millionths s (a * 1000000 / c))
unfolding fixed_of
fixed-by nan s a c p h = absurd h
fixed-by (inf t) s a c p h = absurd h
fixed-by (fin t m e) s a c p h =
    let x : leb (2 ^ 43 * down e) (m * up e) ≡ leb (2 ^ 43 * c) a =
    same_test (2 ^ 43 * down e) (m * up e) (2 ^ 43 * c) a (crossed (2 ^ 43) (m * up e) (down e) a c (down_pos e) h.1)
    (crossed (2 ^ 43) a c (m * up e) (down e) p (sym h.1)) in
    let y : m * up e * 1000000 / down e ≡ a * 1000000 / c =
    div_same (m * up e * 1000000) (down e) (a * 1000000) c (down_pos e) p
    (mul_right_comm (m * up e) 1000000 c ∙ ap (λ (z : ℕ). z * 1000000) h.1 ∙ mul_right_comm a (down e) 1000000) in
    rw (x, y, h.0) refl

-- ---- the fields

scaled : (q x l : ℕ) → x ≤ l → q * 2 ^ x * 1000000 / 2 ^ l ≡ q * 1000000 / 2 ^ (l - x)
scaled q x l h =
    let n : l - x + x ≡ l = omega arith in
    ap (λ (z : ℕ). z / 2 ^ l) (mul_right_comm q (2 ^ x) 1000000)
    ∙ ap (λ (z : ℕ). q * 1000000 * 2 ^ x / z) (ap (λ (j : ℕ). 2 ^ j) (sym n) ∙ pow-add 2 (l - x) x)
    ∙ mul-div-mul_right (q * 1000000) (2 ^ (l - x)) (pow_pos x)

by-odd : (s : Bool) (q x : ℕ) → q < 2 ^ 53 → x ≤ 1064 → fixed_of (odd 53 s q x 1074) ≡ millionths s (q * 1000000 / 2 ^ (1074 - x))
by-odd s q x h l =
    let n : 53 + x ≤ 1117 = omega arith in
    let t = lt-leb (2 ^ 43 * 2 ^ 1074) (q * 2 ^ x) (lt_of_lt_of_le (shl_lt 53 x h) (pow_mono n)) in
    fixed-by (odd 53 s q x 1074) s (q * 2 ^ x) (2 ^ 1074) (pow_pos 1074) (odd_sign 53 s q x 1074)
    ∙ ap (λ (b : Bool). cond b large_text (millionths s (q * 2 ^ x * 1000000 / 2 ^ 1074))) t
    ∙ ap (millionths s) (scaled q x 1074 (le_trans l (lit≤ tt)))

by-odd-large : (s : Bool) (q x : ℕ) → 2 ^ 52 ≤ q → 1065 ≤ x → fixed_of (odd 53 s q x 1074) ≡ large_text
by-odd-large s q x h l =
    let t = le-leb (2 ^ 43 * 2 ^ 1074) (q * 2 ^ x) (mul-le-mul h (pow_mono l)) in
    fixed-by (odd 53 s q x 1074) s (q * 2 ^ x) (2 ^ 1074) (pow_pos 1074) (odd_sign 53 s q x 1074)
    ∙ ap (λ (b : Bool). cond b large_text (millionths s (q * 2 ^ x * 1000000 / 2 ^ 1074))) t

small-fields : (s : Bool) (x t : ℕ) → x ≤ 1065 → t < 2 ^ 52
    → fixed_of (of_fields binary64 s x t) ≡ millionths s (cond (eqb x 0) t (t + 2 ^ 52) * 1000000 / 2 ^ cond (eqb x 0) 1074 (1075 - x))
unfolding of_fields
small-fields s zero t l h = by-odd s t 0 (lt_of_lt_of_le h (lit≤ tt)) (lit≤ tt)
small-fields s (suc x) t l h =
    let q : 4503599627370496 + t < 2 ^ 53 = omega arith in
    let c : 4503599627370496 + t ≡ t + 4503599627370496 = omega arith in
    let k : 1074 - x ≡ 1075 - suc x = omega arith in
    let n : suc x ≡ 2047 → ⊥ = λ e. omega arith in
    let z : suc x ≡ 0 → ⊥ = λ e. omega arith in
    let y : x ≤ 1064 = omega arith in
    rw (ne_eqb (suc x) 2047 n, ne_eqb (suc x) 0 z)
    (by-odd s (4503599627370496 + t) x q y ∙ ap (λ (j : ℕ). millionths s ((4503599627370496 + t) * 1000000 / 2 ^ j)) k
    ∙ ap (λ (m : ℕ). millionths s (m * 1000000 / 2 ^ (1075 - suc x))) c)

large-fields : (s : Bool) (x t : ℕ) → 1066 ≤ x → T (not (is_nan (of_fields binary64 s x t))) → fixed_of (of_fields binary64 s x t) ≡ large_text
unfolding of_fields fixed_of is_nan
large-fields s zero t l h = let z : ⊥ = omega arith in absurd z
large-fields s (suc x) t l h = go (eqb (suc x) 2047) (eqb t 0) h
  where
    y : 1065 ≤ x
    y = omega arith

    go : (a b : Bool) → T (not (is_nan (cond a (cond b (inf s) nan) (odd 53 s (4503599627370496 + t) x 1074))))
        → fixed_of (cond a (cond b (inf s) nan) (odd 53 s (4503599627370496 + t) x 1074)) ≡ large_text
    go true true k = refl
    go true false k = absurd k
    go false b k = by-odd-large s (4503599627370496 + t) x (omega arith) y

-- ---- the bits

split : (b : ℕ) → of_bits binary64 b ≡ of_fields binary64 (leb (2 ^ 63) b) (b % 2 ^ 63 / 2 ^ 52) (b % 2 ^ 63 % 2 ^ 52)
unfolding of_bits
split b = ap (of_fields binary64 (leb (2 ^ 63) b) (b % 2 ^ 63 / 2 ^ 52)) (sym (mod-mod-pow b 11 52))

pub small : (b : ℕ) → b % 2 ^ 63 < 4800837202776948736 → fixed_of (of_bits binary64 b) ≡ millionths (leb (2 ^ 63) b) (millionths_of (b % 2 ^ 63))
unfolding significand scale
small b h =
    let x : b % 2 ^ 63 / 2 ^ 52 ≤ 1065 = omega arith in
    ap fixed_of (split b) ∙ small-fields (leb (2 ^ 63) b) (b % 2 ^ 63 / 2 ^ 52) (b % 2 ^ 63 % 2 ^ 52) x (omega arith)

pub large : (b : ℕ) → 4800837202776948736 ≤ b % 2 ^ 63 → T (not (is_nan (of_bits binary64 b))) → fixed_of (of_bits binary64 b) ≡ large_text
large b h n =
    let x : 1066 ≤ b % 2 ^ 63 / 2 ^ 52 = omega arith in
    ap fixed_of (split b)
    ∙ large-fields (leb (2 ^ 63) b) (b % 2 ^ 63 / 2 ^ 52) (b % 2 ^ 63 % 2 ^ 52) x (subst (λ (v : Float). T (not (is_nan v))) (split b) n)

-- ---- a NaN

pub fixed-nan : (x : Float) → ne x x ≡ true → fixed_of x ≡ nan_text
unfolding fixed_of
fixed-nan x e = ap fixed_of (differs_from_itself x (subst T (sym e) tt))

pub bits-nan : (x : Float) → ne x x ≡ true → bits_text x ≡ nan_text
unfolding bits_text is_nan
bits-nan x e = ap bits_text (differs_from_itself x (subst T (sym e) tt))

pub bits-else : (x : Float) → T (not (is_nan x)) → bits_text x ≡ 120 ∷ places 16 16 (to_bits binary64 x)
unfolding bits_text is_nan
bits-else nan h = absurd h
bits-else (inf s) h = refl
bits-else (fin s m e) h = refl
