-- Bounds on the operations of f64 by powers of two, with the sign: a result at most 2 ^ k is finite and no larger, one at least 2 ^ -k no smaller.
-- Assumes nothing.
use Rattle.std.proofs.Common.{◌≡◌, ℕ, zero, suc, ◌+◌, ◌-◌, ◌*◌, ◌^◌, ◌<◌, ◌≤◌, true, false, T, ℤ, sym, ap, ◌∙◌, subst, le_trans, le_of_eq, mul-le-mul_right, zero-lt-suc, mul_comm, mul-le-mul, mul-pos, one-mul, mul-one, mul_right_comm, le_of_mul-le-mul_right, arith, lit<, lit≤, pow_pos, pow-add}
use native.Mathlib.Nat.{mul-mul-mul_comm}
use lib.Dec.{eqb-suc-zero}
use lib.Pow.{pow-lt}
use lib.Ieee.{Float, nan, inf, fin, binary64, up, down, round, mul, div, le, lt, eq}
use lib.Ieee.Exact.{HasValue, round_exact}
use lib.Ieee.Order.{round_mono}
use lib.Ieee.Fits.{up_pos, down_pos}
use Rattle.real.specs.F64.{◌⊗◌, ◌⊘◌}
use Rattle.real.proofs.Bounds.{Signed, round-signed, or_cases, cross}

-- x is finite, its sign is plus, and it is 2 ^ k or less
abbrev pub Up : Float → ℕ → Type 0
Up nan k = ⊥
Up (inf s) k = ⊥
Up (fin true m e) k = ⊥
Up (fin false m e) k = m * up e ≤ 2 ^ k * down e

-- x is 2 ^ -k or more, the infinity above too
abbrev pub Over : Float → ℕ → Type 0
Over nan k = ⊥
Over (inf true) k = ⊥
Over (inf false) k = Prim.Unit
Over (fin true m e) k = ⊥
Over (fin false m e) k = down e ≤ m * up e * 2 ^ k

-- ---- powers of two are values

power : (k : ℕ) → k < 1024 → HasValue (round binary64 false (2 ^ k) 1) false (2 ^ k) 1
power k h =
    round_exact binary64 false (2 ^ k) 1 1 (k + 1074) (zero-lt-suc 0) (lit< tt)
    (subst (λ (x : ℕ). x < 2 ^ 2098) (sym (one-mul (2 ^ (k + 1074)))) (pow-lt (room k h)))
    (sym (pow-add 2 k 1074) ∙ sym (one-mul (2 ^ (k + 1074))) ∙ sym (mul-one (1 * 2 ^ (k + 1074))))
  where
    room : (k : ℕ) → k < 1024 → k + 1074 < 2098
    room k h = omega arith

fraction : (k : ℕ) → k ≤ 1074 → HasValue (round binary64 false 1 (2 ^ k)) false 1 (2 ^ k)
fraction k h =
    round_exact binary64 false 1 (2 ^ k) 1 (1074 - k) (pow_pos k) (lit< tt)
    (subst (λ (x : ℕ). x < 2 ^ 2098) (sym (one-mul (2 ^ (1074 - k)))) (pow-lt (room k)))
    (one-mul (2 ^ 1074) ∙ ap (λ (x : ℕ). 2 ^ x) (sym (back k h)) ∙ pow-add 2 (1074 - k) k ∙ ap (λ (x : ℕ). x * 2 ^ k) (sym (one-mul (2 ^ (1074 - k)))))
  where
    room : (k : ℕ) → 1074 - k < 2098
    room k = omega arith

    back : (k : ℕ) → k ≤ 1074 → 1074 - k + k ≡ 1074
    back k h = omega arith

-- ---- a fraction of at most 2 ^ k, rounded

below : (x y : Float) (k : ℕ) → Signed x false → T (le x y) → HasValue y false (2 ^ k) 1 → Up x k
unfolding le lt eq
below nan y k s t h = absurd s
below (inf b) nan k s t h = absurd h
below (inf b) (inf u) k s t h = absurd h
below (inf true) (fin u n d) k s t h = absurd (subst T s tt)
below (inf false) (fin u n d) k s t h = absurd t
below (fin b m e) nan k s t h = absurd h
below (fin b m e) (inf u) k s t h = absurd h
below (fin true m e) (fin u n d) k s t h = absurd (subst T s tt)
below (fin false m e) (fin true n d) k s t h = absurd (subst T h.0 tt)
below (fin false m e) (fin false n d) k s t h = cross (m * up e) (n * up d) (2 ^ k) (down e) (down d) (down_pos d) (or_cases (m * up e * down d) (n * up d * down e) t) h.1

pub round_up : (n d k : ℕ) → k < 1024 → 0 < d → n ≤ 2 ^ k * d → Up (round binary64 false n d) k
round_up n d k l p h =
    below (round binary64 false n d) (round binary64 false (2 ^ k) 1) k (round-signed binary64 false n d)
    (round_mono binary64 n d (2 ^ k) 1 p (lit≤ tt) (subst (λ (z : ℕ). z ≤ 2 ^ k * d) (sym (mul-one n)) h))
    (power k l)

-- ---- and of at least 2 ^ -k

cross' : (m n K e d : ℕ) → 0 < d → n * e ≤ m * d → n * K ≡ 1 * d → e ≤ m * K
cross' m n K e d p h v =
    le_of_mul-le-mul_right
    (le_trans (le_of_eq (mul_comm e d ∙ ap (λ (z : ℕ). z * e) (sym (one-mul d) ∙ sym v) ∙ mul_right_comm n K e))
    (le_trans (mul-le-mul_right K h) (le_of_eq (mul_right_comm m d K))))
    p

above : (x y : Float) (k : ℕ) → Signed x false → T (le y x) → HasValue y false 1 (2 ^ k) → Over x k
unfolding le lt eq
above nan y k s t h = absurd s
above (inf true) y k s t h = absurd (subst T s tt)
above (inf false) y k s t h = tt
above (fin true m e) y k s t h = absurd (subst T s tt)
above (fin false m e) nan k s t h = absurd h
above (fin false m e) (inf u) k s t h = absurd h
above (fin false m e) (fin true n d) k s t h = absurd (subst T h.0 tt)
above (fin false m e) (fin false n d) k s t h = cross' (m * up e) (n * up d) (2 ^ k) (down e) (down d) (down_pos d) (or_cases (n * up d * down e) (m * up e * down d) t) h.1

pub round-over : (n d k : ℕ) → k ≤ 1074 → 0 < d → d ≤ n * 2 ^ k → Over (round binary64 false n d) k
round-over n d k l p h =
    above (round binary64 false n d) (round binary64 false 1 (2 ^ k)) k (round-signed binary64 false n d)
    (round_mono binary64 1 (2 ^ k) n d (pow_pos k) p (subst (λ (z : ℕ). z ≤ n * 2 ^ k) (sym (one-mul d)) h))
    (fraction k l)

-- ---- the operations

pub mul-up : (x y : Float) (i j : ℕ) → i + j < 1024 → Up x i → Up y j → Up (x ⊗ y) (i + j)
unfolding mul
mul-up nan y i j l h k = absurd h
mul-up (inf s) y i j l h k = absurd h
mul-up (fin true m e) y i j l h k = absurd h
mul-up (fin false m e) nan i j l h k = absurd k
mul-up (fin false m e) (inf t) i j l h k = absurd k
mul-up (fin false m e) (fin true n d) i j l h k = absurd k
mul-up (fin false m e) (fin false n d) i j l h k =
    round_up (m * up e * (n * up d)) (down e * down d) (i + j) l (mul-pos (down_pos e) (down_pos d))
    (le_trans (mul-le-mul h k) (le_of_eq (mul-mul-mul_comm (2 ^ i) (down e) (2 ^ j) (down d) ∙ ap (λ (z : ℕ). z * (down e * down d)) (sym (pow-add 2 i j)))))

none : {X : Type 0} (u d K : ℕ) → 0 < d → d ≤ 0 * u * K → X
none u d K p h = absurd (no u d K p h)
  where
    no : (u d K : ℕ) → 0 < d → d ≤ 0 * u * K → ⊥
    no u d K p h = omega arith

pub div-up : (x y : Float) (i j : ℕ) → i + j < 1024 → Up x i → Over y j → Up (x ⊘ y) (i + j)
unfolding div
div-up nan y i j l h k = absurd h
div-up (inf s) y i j l h k = absurd h
div-up (fin true m e) y i j l h k = absurd h
div-up (fin false m e) nan i j l h k = absurd k
div-up (fin false m e) (inf true) i j l h k = absurd k
div-up (fin false m e) (inf false) i j l h k = nothing (2 ^ (i + j))
  where
    nothing : (p : ℕ) → 0 * 1 ≤ p * 1
    nothing p = omega arith
div-up (fin false m e) (fin true n d) i j l h k = absurd k
div-up (fin false m e) (fin false zero d) i j l h k = none (up d) (down d) (2 ^ j) (down_pos d) k
div-up (fin false m e) (fin false (suc n) d) i j l h k =
    let N = suc n * up d in
    let same : 2 ^ i * down e * (N * 2 ^ j) ≡ 2 ^ (i + j) * (N * down e) =
    ap (λ (z : ℕ). 2 ^ i * down e * z) (mul_comm N (2 ^ j)) ∙ mul-mul-mul_comm (2 ^ i) (down e) (2 ^ j) N
    ∙ ap (λ (z : ℕ). z * (down e * N)) (sym (pow-add 2 i j)) ∙ ap (λ (z : ℕ). 2 ^ (i + j) * z) (mul_comm (down e) N) in
    rw (eqb-suc-zero n)
    (round_up (m * up e * down d) (N * down e) (i + j) l (mul-pos (mul-pos (zero-lt-suc n) (up_pos d)) (down_pos e))
    (le_trans (mul-le-mul h k) (le_of_eq same)))

-- y is not zero
pub div-over : (x : Float) (n : ℕ) (d : ℤ) (i j : ℕ) → i + j ≤ 1074 → Over x i → Up (fin false (suc n) d) j → Over (x ⊘ fin false (suc n) d) (i + j)
unfolding div
div-over nan n d i j l h k = absurd h
div-over (inf true) n d i j l h k = absurd h
div-over (inf false) n d i j l h k = tt
div-over (fin true m e) n d i j l h k = absurd h
div-over (fin false m e) n d i j l h k =
    let N = suc n * up d in
    let M = m * up e in
    let same : 2 ^ j * down d * (M * 2 ^ i) ≡ M * down d * 2 ^ (i + j) =
    mul-mul-mul_comm (2 ^ j) (down d) M (2 ^ i) ∙ ap (λ (z : ℕ). 2 ^ j * M * z) (mul_comm (down d) (2 ^ i))
    ∙ ap (λ (z : ℕ). z * (2 ^ i * down d)) (mul_comm (2 ^ j) M) ∙ mul-mul-mul_comm M (2 ^ j) (2 ^ i) (down d)
    ∙ ap (λ (z : ℕ). M * 2 ^ i * z) (mul_comm (2 ^ j) (down d)) ∙ mul-mul-mul_comm M (2 ^ i) (down d) (2 ^ j)
    ∙ ap (λ (z : ℕ). M * down d * z) (sym (pow-add 2 i j)) in
    rw (eqb-suc-zero n)
    (round-over (M * down d) (N * down e) (i + j) l (mul-pos (mul-pos (zero-lt-suc n) (up_pos d)) (down_pos e))
    (le_trans (mul-le-mul k h) (le_of_eq same)))

pub mul-over : (x y : Float) (i j : ℕ) → i + j ≤ 1074 → Over x i → Over y j → Over (x ⊗ y) (i + j)
unfolding mul
mul-over nan y i j l h k = absurd h
mul-over (inf true) y i j l h k = absurd h
mul-over (fin true m e) y i j l h k = absurd h
mul-over (inf false) nan i j l h k = absurd k
mul-over (inf false) (inf true) i j l h k = absurd k
mul-over (inf false) (inf false) i j l h k = tt
mul-over (inf false) (fin true n d) i j l h k = absurd k
mul-over (inf false) (fin false zero d) i j l h k = none (up d) (down d) (2 ^ j) (down_pos d) k
mul-over (inf false) (fin false (suc n) d) i j l h k = rw (eqb-suc-zero n) tt
mul-over (fin false m e) nan i j l h k = absurd k
mul-over (fin false m e) (inf true) i j l h k = absurd k
mul-over (fin false zero e) (inf false) i j l h k = none (up e) (down e) (2 ^ i) (down_pos e) h
mul-over (fin false (suc m) e) (inf false) i j l h k = rw (eqb-suc-zero m) tt
mul-over (fin false m e) (fin true n d) i j l h k = absurd k
mul-over (fin false m e) (fin false n d) i j l h k =
    round-over (m * up e * (n * up d)) (down e * down d) (i + j) l (mul-pos (down_pos e) (down_pos d))
    (le_trans (mul-le-mul h k) (le_of_eq (mul-mul-mul_comm (m * up e) (2 ^ i) (n * up d) (2 ^ j) ∙ ap (λ (z : ℕ). m * up e * (n * up d) * z) (sym (pow-add 2 i j)))))

-- y is finite and not zero
pub div-between : (x y : Float) (i j k : ℕ) → i + j ≤ 1074 → Over x i → Up y j → Over y k → Over (x ⊘ y) (i + j)
div-between x nan i j k l h g u = absurd g
div-between x (inf s) i j k l h g u = absurd g
div-between x (fin true n d) i j k l h g u = absurd g
div-between x (fin false zero d) i j k l h g u = none (up d) (down d) (2 ^ k) (down_pos d) u
div-between x (fin false (suc n) d) i j k l h g u = div-over x n d i j l h g
