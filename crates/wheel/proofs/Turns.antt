-- The sine is negative in the second half of the turn alone, half a turn on it changes its sign, the cosine is the sine a quarter turn on, and their
-- squares sum to nearly 2^60: over all e in 0..3,599.
-- Assumes nothing.
use Rattle.std.proofs.Common.{◌≡◌, ℕ, zero, suc, ◌+◌, ◌-◌, ◌<◌, ◌≤◌, Bool, true, false, eqb, ltb, ℤ, pos, negsuc, neg_ℤ, nat_abs, sym, refl, ap, ◌∙◌, subst, lt_irrefl, arith, le-ltb, lt-ltb, eqb-true}
use lib.IntN.{neg_ℤ-neg_ℤ}
use borrow.Author.Tests.{eqb-false}
use Rattle.wheel.specs.Sines.{nest_of, sine_of, sine_entry}
use Rattle.wheel.specs.Wheel.{signed_sine, signed_cosine, on_by}
use Rattle.wheel.proofs.Entries.{strict-growth, Near, squares, sum-of-squares}
use Rattle.wheel.proofs.Quadrants.{first, second, third, fourth, on-short, on-round, Quadrant, q1, q2, q3, q4, quadrant}

entry-0 : sine_entry 0 ≡ 0
unfolding nest_of sine_of sine_entry
entry-0 = refl

-- the signed entries
abbrev plus : ℕ → ℤ
plus k = pos (sine_entry k)

abbrev minus : ℕ → ℤ
minus k = neg_ℤ (pos (sine_entry k))

minus-0 : minus 0 ≡ plus 0
minus-0 = rw entry-0

-- ---- the sign

abbrev pub negative : ℤ → Bool
negative (pos n) = false
negative (negsuc n) = true

minus-negative : (k : ℕ) → 0 < k → k ≤ 900 → negative (minus k) ≡ true
minus-negative zero h l = absurd (lt_irrefl 0 h)
minus-negative (suc k) h l = go (sine_entry (suc k)) (some (sine_entry k) (sine_entry (suc k)) (strict-growth k (omega arith)))
  where
    some : (a b : ℕ) → a < b → 0 < b
    some a b h = omega arith

    go : (n : ℕ) → 0 < n → negative (neg_ℤ (pos n)) ≡ true
    go zero p = absurd (lt_irrefl 0 p)
    go (suc n) p = refl

pub signs : (e : ℕ) → e < 3600 → negative (signed_sine e) ≡ ltb 1800 e
signs e l = go (quadrant e)
  where
    go : Quadrant e → negative (signed_sine e) ≡ ltb 1800 e
    go (q1 h) = ap negative (first e h) ∙ sym (le-ltb 1800 e (omega arith))
    go (q2 g h) = ap negative (second e g h) ∙ sym (le-ltb 1800 e h)
    go (q3 g h) = ap negative (third e g h) ∙ minus-negative (e - 1800) (omega arith) (omega arith) ∙ sym (lt-ltb 1800 e g)
    go (q4 g) = ap negative (fourth e g) ∙ minus-negative (3600 - e) (omega arith) (omega arith) ∙ sym (lt-ltb 1800 e (omega arith))

-- ---- half a turn on

half-1 : (e : ℕ) → e ≤ 900 → signed_sine (e + 1800) ≡ minus e
half-1 e h = go (eqb e 0) refl
  where
    go : (b : Bool) → eqb e 0 ≡ b → signed_sine (e + 1800) ≡ minus e
    go true p =
        let z : e ≡ 0 = eqb-true e 0 p in
        let s : 1800 - (e + 1800) ≡ 0 = omega arith in
        second (e + 1800) (omega arith) (omega arith) ∙ ap plus s ∙ sym minus-0 ∙ ap minus (sym z)
    go false p =
        let z : 0 < e = omega (arith, eqb-false e 0 p) in
        let s : e + 1800 - 1800 ≡ e = omega arith in
        third (e + 1800) (omega arith) (omega arith) ∙ ap minus s

half-2 : (e : ℕ) → 900 < e → e ≤ 1800 → signed_sine (on_by 1800 e) ≡ minus (1800 - e)
half-2 e g h = go (eqb e 1800) refl
  where
    go : (b : Bool) → eqb e 1800 ≡ b → signed_sine (on_by 1800 e) ≡ minus (1800 - e)
    go true p =
        let z : e ≡ 1800 = eqb-true e 1800 p in
        let s : e + 1800 - 3600 ≡ 0 = omega arith in
        let t : 0 ≡ 1800 - e = omega arith in
        ap signed_sine (on-round 1800 e (omega arith) ∙ s) ∙ first 0 (omega arith) ∙ sym minus-0 ∙ ap minus t
    go false p =
        let z : e < 1800 = omega (arith, eqb-false e 1800 p) in
        let s : 3600 - (e + 1800) ≡ 1800 - e = omega arith in
        ap signed_sine (on-short 1800 e (omega arith)) ∙ fourth (e + 1800) (omega arith) ∙ ap minus s

pub half-turn : (e : ℕ) → e < 3600 → signed_sine (on_by 1800 e) ≡ neg_ℤ (signed_sine e)
half-turn e l = go (quadrant e)
  where
    go : Quadrant e → signed_sine (on_by 1800 e) ≡ neg_ℤ (signed_sine e)
    go (q1 h) = ap signed_sine (on-short 1800 e (omega arith)) ∙ half-1 e h ∙ ap neg_ℤ (sym (first e h))
    go (q2 g h) = half-2 e g h ∙ ap neg_ℤ (sym (second e g h))
    go (q3 g h) =
        let s : e + 1800 - 3600 ≡ e - 1800 = omega arith in
        ap signed_sine (on-round 1800 e (omega arith) ∙ s)
        ∙ first (e - 1800) (omega arith) ∙ sym (neg_ℤ-neg_ℤ (plus (e - 1800))) ∙ ap neg_ℤ (sym (third e g h))
    go (q4 g) =
        let s : e + 1800 - 3600 ≡ e - 1800 = omega arith in
        let t : 1800 - (e - 1800) ≡ 3600 - e = omega arith in
        ap signed_sine (on-round 1800 e (omega arith) ∙ s)
        ∙ second (e - 1800) (omega arith) (omega arith) ∙ ap plus t ∙ sym (neg_ℤ-neg_ℤ (plus (3600 - e))) ∙ ap neg_ℤ (sym (fourth e g))

pub quarter-turn : (e : ℕ) → signed_cosine e ≡ signed_sine (on_by 900 e)
quarter-turn e = refl

-- ---- the squares

size-minus : (n : ℕ) → nat_abs (neg_ℤ (pos n)) ≡ n
size-minus zero = refl
size-minus (suc n) = refl

cosine-1 : (e : ℕ) → e ≤ 900 → signed_cosine e ≡ plus (900 - e)
cosine-1 e h = go (eqb e 0) refl
  where
    go : (b : Bool) → eqb e 0 ≡ b → signed_cosine e ≡ plus (900 - e)
    go true p =
        let z : e ≡ 0 = eqb-true e 0 p in
        let s : e + 900 ≡ 900 - e = omega arith in
        ap signed_sine (on-short 900 e (omega arith)) ∙ first (e + 900) (omega arith) ∙ ap plus s
    go false p =
        let z : 0 < e = omega (arith, eqb-false e 0 p) in
        let s : 1800 - (e + 900) ≡ 900 - e = omega arith in
        ap signed_sine (on-short 900 e (omega arith)) ∙ second (e + 900) (omega arith) (omega arith) ∙ ap plus s

cosine-2 : (e : ℕ) → 900 < e → e ≤ 1800 → signed_cosine e ≡ minus (900 - (1800 - e))
cosine-2 e g h =
    let s : e + 900 - 1800 ≡ 900 - (1800 - e) = omega arith in
    ap signed_sine (on-short 900 e (omega arith)) ∙ third (e + 900) (omega arith) (omega arith) ∙ ap minus s

cosine-3 : (e : ℕ) → 1800 < e → e ≤ 2700 → signed_cosine e ≡ minus (900 - (e - 1800))
cosine-3 e g h = go (eqb e 2700) refl
  where
    go : (b : Bool) → eqb e 2700 ≡ b → signed_cosine e ≡ minus (900 - (e - 1800))
    go true p =
        let z : e ≡ 2700 = eqb-true e 2700 p in
        let s : e + 900 - 3600 ≡ 0 = omega arith in
        let t : 0 ≡ 900 - (e - 1800) = omega arith in
        ap signed_sine (on-round 900 e (omega arith) ∙ s) ∙ first 0 (omega arith) ∙ sym minus-0 ∙ ap minus t
    go false p =
        let z : e < 2700 = omega (arith, eqb-false e 2700 p) in
        let s : 3600 - (e + 900) ≡ 900 - (e - 1800) = omega arith in
        ap signed_sine (on-short 900 e (omega arith)) ∙ fourth (e + 900) (omega arith) ∙ ap minus s

cosine-4 : (e : ℕ) → 2700 < e → e < 3600 → signed_cosine e ≡ plus (900 - (3600 - e))
cosine-4 e g h =
    let s : e + 900 - 3600 ≡ 900 - (3600 - e) = omega arith in
    ap signed_sine (on-round 900 e (omega arith) ∙ s) ∙ first (900 - (3600 - e)) (omega arith)

-- the two sizes are the entries of some k and of 900 − k
one-circle : (s c : ℤ) (k : ℕ) → k ≤ 900 → nat_abs s ≡ sine_entry k → nat_abs c ≡ sine_entry (900 - k) → Near (squares (nat_abs s) (nat_abs c))
one-circle s c k h p q =
    subst (λ (m : ℕ). Near (squares m (nat_abs c))) (sym p) (subst (λ (m : ℕ). Near (squares (sine_entry k) m)) (sym q) (sum-of-squares k h))

pub signed-squares : (e : ℕ) → e < 3600 → Near (squares (nat_abs (signed_sine e)) (nat_abs (signed_cosine e)))
signed-squares e l = go (quadrant e)
  where
    go : Quadrant e → Near (squares (nat_abs (signed_sine e)) (nat_abs (signed_cosine e)))
    go (q1 h) = one-circle (signed_sine e) (signed_cosine e) e h (ap nat_abs (first e h)) (ap nat_abs (cosine-1 e h))
    go (q2 g h) =
        one-circle (signed_sine e) (signed_cosine e) (1800 - e) (omega arith)
        (ap nat_abs (second e g h)) (ap nat_abs (cosine-2 e g h) ∙ size-minus (sine_entry (900 - (1800 - e))))
    go (q3 g h) =
        one-circle (signed_sine e) (signed_cosine e) (e - 1800) (omega arith)
        (ap nat_abs (third e g h) ∙ size-minus (sine_entry (e - 1800))) (ap nat_abs (cosine-3 e g h) ∙ size-minus (sine_entry (900 - (e - 1800))))
    go (q4 g) =
        one-circle (signed_sine e) (signed_cosine e) (3600 - e) (omega arith)
        (ap nat_abs (fourth e g) ∙ size-minus (sine_entry (3600 - e))) (ap nat_abs (cosine-4 e g l))
