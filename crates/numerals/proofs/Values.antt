-- Laws of digits read one by one. Assumes nothing.
use Rattle.std.specs.Prelude.{None, Some}
use Rattle.std.proofs.Common.{◌≡◌, ℕ, ◌+◌, ◌-◌, ◌*◌, ◌/◌, ◌^◌, ◌<◌, ◌≤◌, Bool, true, false, cond, ◌&&◌, eqb, ltb, ◌⊎◌, List, [], ◌∷◌, ◌++◌, length, get_or, take, drop, sym, refl, ap, ◌∙◌, inl, inr, zero-le, le_trans, le_refl, div-lt_iff_lt-mul, le-div_iff_mul-le, le-mul_of_pos_right, arith, drop_of_length-le, ltb-false, le-ltb, lt-ltb}
use lib.Pointwise.{pointwise}
use mathlib.Core.Bool.{and-false}
use Rattle.numerals.specs.Numbers.{first, digit_of, are_digits, value_of, word_digits}
use Rattle.words.proofs.Searches.{step}

-- what `strip_prefix` tests: the first byte
pub begins : (s : List ℕ) (b : ℕ) → eqb 0 b ≡ false → pointwise eqb (take 1 s) (b ∷ []) ≡ eqb (first s) b
begins [] b e = sym e
begins (a ∷ s) b e = go (eqb a b)
  where
    go : (t : Bool) → (t && true) ≡ t
    go true = refl
    go false = refl

-- a number with digits behind it is no smaller
pub grows : (base v : ℕ) (s : List ℕ) → 1 ≤ base → v ≤ value_of base v s
unfolding value_of
grows base v [] h = le_refl v
grows base v (b ∷ s) h =
    let p : v ≤ v * base = le-mul_of_pos_right v h in
    le_trans (omega arith) (grows base (v * base + digit_of b) s h)

digits-cons : (base b : ℕ) (s : List ℕ) (t : Bool) → ltb (digit_of b) base ≡ t → are_digits base (b ∷ s) ≡ (t && are_digits base s)
unfolding are_digits
digits-cons base b s t e = rw e

value-cons : (base n b : ℕ) (s : List ℕ) → value_of base n (b ∷ s) ≡ value_of base (n * base + digit_of b) s
unfolding value_of
value-cons base n b s = refl

read_no : (base v : ℕ) (s : List ℕ) → are_digits base s ≡ false → word_digits base v s ≡ None
unfolding word_digits
read_no base v s e = rw e

read-large : (base v : ℕ) (s : List ℕ) → 2 ^ 64 ≤ value_of base v s → word_digits base v s ≡ None
unfolding word_digits
read-large base v s h = rw (le-ltb (value_of base v s) (2 ^ 64) h, and-false (are_digits base s)) refl

read-yes : (base v : ℕ) (s : List ℕ) → are_digits base s ≡ true → value_of base v s < 2 ^ 64 → word_digits base v s ≡ Some (value_of base v s)
unfolding word_digits
read-yes base v s e h = rw (e, lt-ltb (value_of base v s) (2 ^ 64) h) refl

-- ---- the loop: i bytes are read, and n is their number

pub record Reading (base v : ℕ) (s : List ℕ) (n i : ℕ) : Type 0 where
  pub within : i ≤ length s
  pub digits : are_digits base (drop i s) ≡ are_digits base s
  pub number : value_of base n (drop i s) ≡ value_of base v s
  pub small : n < 2 ^ 64

module _ (base v : ℕ) (s : List ℕ) (n i : ℕ) (r : Reading base v s n i) where
  pub bad-digit : i < length s → base ≤ digit_of (get_or s i 0) → None ≡ word_digits base v s
  bad-digit h k =
      sym (read_no base v s (sym r.digits ∙ ap (are_digits base) (step s i h) ∙ digits-cons base (get_or s i 0) (drop (i + 1) s) false (le-ltb _ _ k)))

  next : i < length s → value_of base (n * base + digit_of (get_or s i 0)) (drop (i + 1) s) ≡ value_of base v s
  next h = sym (value-cons base n (get_or s i 0) (drop (i + 1) s)) ∙ ap (value_of base n) (sym (step s i h)) ∙ r.number

  pub too_large : i < length s → 1 ≤ base → 2 ^ 64 ≤ n * base + digit_of (get_or s i 0) → None ≡ word_digits base v s
  too_large h b k =
      sym (read-large base v s (rw (next h) at (le_trans k (grows base (n * base + digit_of (get_or s i 0)) (drop (i + 1) s) b))))

  pub more-digits : i < length s → digit_of (get_or s i 0) < base → n * base + digit_of (get_or s i 0) < 2 ^ 64
      → Reading base v s (n * base + digit_of (get_or s i 0)) (i + 1)
  more-digits h k l =
      record {
        within = omega arith;
        digits =
            sym (digits-cons base (get_or s i 0) (drop (i + 1) s) true (lt-ltb _ _ k)) ∙ ap (are_digits base) (sym (step s i h)) ∙ r.digits;
        number = next h;
        small = l;
      }

  pub all_read : length s ≤ i → Some n ≡ word_digits base v s
  unfolding are_digits value_of
  all_read h =
      let z : drop i s ≡ [] = drop_of_length-le s h in
      let d : are_digits base s ≡ true = sym r.digits ∙ ap (are_digits base) z in
      let e : value_of base v s ≡ n = sym r.number ∙ ap (value_of base n) z in
      ap Some (sym e) ∙ sym (read-yes base v s d (rw e r.small))

pub none_read : (base v : ℕ) (s : List ℕ) → v < 2 ^ 64 → Reading base v s v 0
none_read base v s h = record { within = zero-le; digits = refl; number = refl; small = h }

-- the test ahead of n * base + d
pub over : (n base d : ℕ) → 1 ≤ base → d < 2 ^ 64 → (18446744073709551615 - d) / base < n → 2 ^ 64 ≤ n * base + d
over n base d b k h =
    let p : 18446744073709551615 - d < n * base = (div-lt_iff_lt-mul b).0 h in
    omega arith

pub fits : (n base d : ℕ) → 1 ≤ base → d < 2 ^ 64 → n ≤ (18446744073709551615 - d) / base → n * base + d < 2 ^ 64
fits n base d b k h =
    let p : n * base ≤ 18446744073709551615 - d = (le-div_iff_mul-le b).0 h in
    omega arith

-- ---- digits behind digits

value-append : (base v : ℕ) (a f : List ℕ) → value_of base v (a ++ f) ≡ value_of base (value_of base v a) f
unfolding value_of
value-append base v [] f = refl
value-append base v (b ∷ a) f = value-append base (v * base + digit_of b) a f

and_assoc : (x y z : Bool) → (x && (y && z)) ≡ ((x && y) && z)
and_assoc true y z = refl
and_assoc false y z = refl

digits_append : (base : ℕ) (a f : List ℕ) → are_digits base (a ++ f) ≡ (are_digits base a && are_digits base f)
unfolding are_digits
digits_append base [] f = refl
digits_append base (b ∷ a) f = ap (λ (t : Bool). ltb (digit_of b) base && t) (digits_append base a f) ∙ and_assoc (ltb (digit_of b) base) (are_digits base a) (are_digits base f)

-- what a reading says of its digits
was_read : (t : Bool) (w n : ℕ) → cond (t && ltb w (2 ^ 64)) (Some w) None ≡ Some n → (t ≡ true) × (w ≡ n)
was_read true w n e = (refl, go (ltb w (2 ^ 64)) e)
  where
    go : (u : Bool) → cond u (Some w) None ≡ Some n → w ≡ n
    go true h = cc
    go false h = let z : ◌≡◌ {A = ℕ} 0 1 = cc in absurd (omega arith)
was_read false w n e = let z : ◌≡◌ {A = ℕ} 0 1 = cc in absurd (omega arith)

pub read_is : (base v : ℕ) (s : List ℕ) (n : ℕ) → word_digits base v s ≡ Some n → (are_digits base s ≡ true) × (value_of base v s ≡ n)
unfolding word_digits
read_is base v s n e = was_read (are_digits base s) (value_of base v s) n e

pub read-both : (base v : ℕ) (a f : List ℕ) (n : ℕ) → word_digits base v a ≡ Some n → word_digits base v (a ++ f) ≡ word_digits base n f
unfolding word_digits
read-both base v a f n e =
    let p = read_is base v a n e in
    rw (digits_append base a f, value-append base v a f, p.0, p.1) refl

was-not : (t : Bool) (w : ℕ) → cond (t && ltb w (2 ^ 64)) (Some w) None ≡ None → (t ≡ false) ⊎ (2 ^ 64 ≤ w)
was-not true w e = go (ltb w (2 ^ 64)) refl e
  where
    go : (u : Bool) → ltb w (2 ^ 64) ≡ u → cond u (Some w) None ≡ None → (true ≡ false) ⊎ (2 ^ 64 ≤ w)
    go true g h = let z : ◌≡◌ {A = ℕ} 0 1 = cc in absurd (omega arith)
    go false g h = inr (ltb-false w (2 ^ 64) g)
was-not false w e = inl refl

pub read-neither : (base v : ℕ) (a f : List ℕ) → 1 ≤ base → word_digits base v a ≡ None → word_digits base v (a ++ f) ≡ None
unfolding word_digits
read-neither base v a f b e = go (was-not (are_digits base a) (value_of base v a) e)
  where
    go : (are_digits base a ≡ false) ⊎ (2 ^ 64 ≤ value_of base v a) → word_digits base v (a ++ f) ≡ None
    go (inl d) = read_no base v (a ++ f) (rw (digits_append base a f, d) refl)
    go (inr l) = read-large base v (a ++ f) (rw (value-append base v a f) (le_trans l (grows base (value_of base v a) f b)))
