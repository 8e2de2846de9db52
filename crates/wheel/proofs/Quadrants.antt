-- The four quadrants, and what `signed_sine` and `on_by` are in each. Assumes nothing.
use Rattle.std.proofs.Common.{◌≡◌, ℕ, ◌+◌, ◌-◌, ◌<◌, ◌≤◌, Bool, true, false, ltb, leb, pos, neg_ℤ, sym, refl, subst, arith, ltb-false, ltb-true, le-ltb, lt-ltb, le-leb, leb-false, leb-true}
use borrow.Author.Tests.{lt-leb}
use Rattle.wheel.specs.Sines.{sine_entry}
use Rattle.wheel.specs.Wheel.{signed_sine, on_by}

pub first : (e : ℕ) → e ≤ 900 → signed_sine e ≡ pos (sine_entry e)
unfolding signed_sine
first e h = rw (le-leb e 900 h)

pub second : (e : ℕ) → 900 < e → e ≤ 1800 → signed_sine e ≡ pos (sine_entry (1800 - e))
unfolding signed_sine
second e g h = rw (lt-leb e 900 g, le-leb e 1800 h)

pub third : (e : ℕ) → 1800 < e → e ≤ 2700 → signed_sine e ≡ neg_ℤ (pos (sine_entry (e - 1800)))
unfolding signed_sine
third e g h =
    let l : 900 < e = omega arith in
    rw (lt-leb e 900 l, lt-leb e 1800 g, le-leb e 2700 h)

pub fourth : (e : ℕ) → 2700 < e → signed_sine e ≡ neg_ℤ (pos (sine_entry (3600 - e)))
unfolding signed_sine
fourth e g =
    let l : 900 < e = omega arith in
    let m : 1800 < e = omega arith in
    rw (lt-leb e 900 l, lt-leb e 1800 m, lt-leb e 2700 g)

pub on-short : (n e : ℕ) → e + n < 3600 → on_by n e ≡ e + n
unfolding on_by
on-short n e h = rw (lt-ltb (e + n) 3600 h)

pub on-round : (n e : ℕ) → 3600 ≤ e + n → on_by n e ≡ e + n - 3600
unfolding on_by
on-round n e h = rw (le-ltb (e + n) 3600 h)

-- by cases
pub data Quadrant (e : ℕ) : Type 0 where
  q1 : e ≤ 900 → Quadrant e
  q2 : 900 < e → e ≤ 1800 → Quadrant e
  q3 : 1800 < e → e ≤ 2700 → Quadrant e
  q4 : 2700 < e → Quadrant e

pub quadrant : (e : ℕ) → Quadrant e
quadrant e = go (leb e 900) (leb e 1800) (leb e 2700) refl refl refl
  where
    go : (a b c : Bool) → leb e 900 ≡ a → leb e 1800 ≡ b → leb e 2700 ≡ c → Quadrant e
    go true b c p q r = q1 (leb-true e 900 p)
    go false true c p q r = q2 (leb-false e 900 p) (leb-true e 1800 q)
    go false false true p q r = q3 (leb-false e 1800 q) (leb-true e 2700 r)
    go false false false p q r = q4 (leb-false e 2700 r)

-- it stays within the turn
pub on_below : (n e : ℕ) → n ≤ 3600 → e < 3600 → on_by n e < 3600
on_below n e g h = go (ltb (e + n) 3600) refl
  where
    go : (b : Bool) → ltb (e + n) 3600 ≡ b → on_by n e < 3600
    go true p = subst (λ (k : ℕ). k < 3600) (sym (on-short n e (ltb-true (e + n) 3600 p))) (ltb-true (e + n) 3600 p)
    go false p =
        let l : 3600 ≤ e + n = ltb-false (e + n) 3600 p in
        subst (λ (k : ℕ). k < 3600) (sym (on-round n e l)) (omega arith)
