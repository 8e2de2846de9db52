-- A number that was put as text is read as that number. Assumes nothing.
use Rattle.std.specs.Prelude.{None, Some}
use Prim.Native.Nat.{ℕ, zero, suc, ◌+◌, ◌-◌, ◌*◌, ◌/◌, ◌%◌, ◌^◌, ◌≤◌, ◌<◌}
use native.Mathlib.Nat.{pow-suc}
use native.Mathlib.Omega.{arith}
use mathlib.Core.Path.{◌≡◌, refl, sym, ap, ◌∙◌}
use mathlib.Core.List.{List, [], ◌∷◌, ◌++◌}
use mathlib.Core.Bool.{Bool, true, false, cond, not, ◌||◌}
use mathlib.Core.Logic.{inr}
use lib.ListN.{length}
use lib.Dec.{ltb, eqb}
use lib.IntN.{ℤ, pos, negsuc}
use lib.Signed.{mag}
use lib.Ieee.{Float, binary64, to_bits, fits, is_nan}
use lib.Ieee.Bits.{of_bits-to_bits, to_bits-lt}
use lib.Dec.{T}
use borrow.Author.Tests.{lt-ltb, le-leb, eqb-true, ltb-true, ne_eqb, eq-eqb, ltb-false}
use Rattle.facts.proofs.Truth.{each, both}
use Rattle.text.specs.Text.{digit_text, digits, decimal, signed_text}
use Rattle.figures.specs.Figures.{places, bits_text}
use Rattle.figures.proofs.Places.{places-length}
use Rattle.figures.proofs.Sizes.{bits-else}
use Rattle.words.specs.Words.{blank}
use Rattle.numerals.specs.Numbers as Num
use Rattle.numerals.specs.Numbers.{digit_of, are_digits, value_of, word_digits, word_whole, word_signed, word_number, pattern_of, of_pattern}
use Rattle.numerals.proofs.Signs.{outside, inside}
use Rattle.retold.proofs.Joined.{clean, some}

-- ---- digits

digit_low : (d : ℕ) → d < 10 → digit_of (48 + d) ≡ d
unfolding digit_of
digit_low d h =
    let e : 48 + d - 48 ≡ d = omega arith in
    rw (inside 48 57 (48 + d) (omega arith) (omega arith)) e

digit-high : (d : ℕ) → 10 ≤ d → d < 16 → digit_of (55 + d) ≡ d
unfolding digit_of
digit-high d h g =
    let e : 55 + d - 55 ≡ d = omega arith in
    rw (outside 48 57 (55 + d) (inr (omega arith)), inside 65 70 (55 + d) (omega arith) (omega arith)) e

digit-either : (d : ℕ) (b : Bool) → ltb d 10 ≡ b → d < 16 → digit_of (cond b (48 + d) (55 + d)) ≡ d
digit-either d true e h = digit_low d (ltb-true d 10 e)
digit-either d false e h = digit-high d (ltb-false d 10 e) h

digit-back : (d : ℕ) → d < 16 → digit_of (digit_text d) ≡ d
unfolding digit_text
digit-back d h = digit-either d (ltb d 10) refl h

-- one digit more
are-more : (base : ℕ) (s : List ℕ) (b : ℕ) → are_digits base s ≡ true → digit_of b < base → are_digits base (s ++ (b ∷ [])) ≡ true
unfolding are_digits
are-more base [] b h g = both (ltb (digit_of b) base) true (lt-ltb (digit_of b) base g) refl
are-more base (c ∷ s) b h g =
    let x = each (ltb (digit_of c) base) (are_digits base s) h in
    both (ltb (digit_of c) base) (are_digits base (s ++ (b ∷ []))) x.0 (are-more base s b x.1 g)

value-more : (base v : ℕ) (s : List ℕ) (b : ℕ) → value_of base v (s ++ (b ∷ [])) ≡ value_of base v s * base + digit_of b
unfolding value_of
value-more base v [] b = refl
value-more base v (c ∷ s) b = value-more base (v * base + digit_of c) s b

-- digits that stand for n
record Says (base n : ℕ) (s : List ℕ) : Type 0 where
  all : are_digits base s ≡ true
  value : value_of base 0 s ≡ n

one-digit : (n : ℕ) → n < 10 → Says 10 n ((48 + n) ∷ [])
unfolding are_digits value_of
one-digit n h =
    let d = digit_low n h in
    let e : value_of 10 0 ((48 + n) ∷ []) ≡ 0 * 10 + digit_of (48 + n) = refl in
    record { all = both (ltb (digit_of (48 + n)) 10) true (rw d (lt-ltb n 10 h)) refl; value = omega (arith, e, d) }

more-digits : (base n : ℕ) (s : List ℕ) (b : ℕ) → Says base (n / base) s → digit_of b ≡ n % base → n % base < base → n / base * base + n % base ≡ n → Says base n (s ++ (b ∷ []))
more-digits base n s b h d l e =
    record {
      all = are-more base s b h.all (rw d l);
      value = value-more base 0 s b ∙ ap (λ (m : ℕ). m * base + digit_of b) h.value ∙ ap (λ (m : ℕ). n / base * base + m) d ∙ e;
    }

decimal-either : (k n : ℕ) (b : Bool) → ltb n 10 ≡ b → Says 10 (n / 10) (digits k (n / 10)) → Says 10 n (cond b ((48 + n) ∷ []) (digits k (n / 10) ++ ((48 + n % 10) ∷ [])))
decimal-either k n true e h = one-digit n (ltb-true n 10 e)
decimal-either k n false e h = more-digits 10 n (digits k (n / 10)) (48 + n % 10) h (digit_low (n % 10) (omega arith)) (omega arith) (omega arith)

decimal-says : (k n : ℕ) → n < 10 ^ suc k → Says 10 n (digits (suc k) n)
unfolding digits
decimal-says zero n h = let l : n < 10 = omega (arith, h) in rw (lt-ltb n 10 l) (one-digit n l)
decimal-says (suc k) n h =
    let l : n / 10 < 10 ^ suc k = omega (arith, rw pow-suc at h) in
    decimal-either (suc k) n (ltb n 10) refl (decimal-says k (n / 10) l)

places-says : (k n : ℕ) → n < 16 ^ k → Says 16 n (places 16 k n)
unfolding places are_digits value_of
places-says zero n h = record { all = refl; value = omega (arith, h) }
places-says (suc k) n h =
    let l : n / 16 < 16 ^ k = omega (arith, rw pow-suc at h) in
    let d : n % 16 < 16 = omega arith in
    more-digits 16 n (places 16 k (n / 16)) (digit_text (n % 16)) (places-says k (n / 16) l) (digit-back (n % 16) d) d (omega arith)

-- ---- words of digits

by_byte : (base b : ℕ) (p q r : Bool) → eqb b 32 ≡ p → eqb b 9 ≡ q → eqb b 13 ≡ r → base ≤ 16 → ltb (digit_of b) base ≡ true → p || (q || r) ≡ false
unfolding digit_of
by_byte base b true q r e f k h g = let z = ltb-true (digit_of b) base g in let w : digit_of b ≡ 16 = ap digit_of (eqb-true b 32 e) in let x : ⊥ = omega (arith, z, w) in absurd x
by_byte base b false true r e f k h g = let z = ltb-true (digit_of b) base g in let w : digit_of b ≡ 16 = ap digit_of (eqb-true b 9 f) in let x : ⊥ = omega (arith, z, w) in absurd x
by_byte base b false false true e f k h g = let z = ltb-true (digit_of b) base g in let w : digit_of b ≡ 16 = ap digit_of (eqb-true b 13 k) in let x : ⊥ = omega (arith, z, w) in absurd x
by_byte base b false false false e f k h g = refl

no_minus : (b : ℕ) (p : Bool) → eqb b 45 ≡ p → ltb (digit_of b) 10 ≡ true → p ≡ false
unfolding digit_of
no_minus b true e g = let z = ltb-true (digit_of b) 10 g in let w : digit_of b ≡ 16 = ap digit_of (eqb-true b 45 e) in let x : ⊥ = omega (arith, z, w) in absurd x
no_minus b false e g = refl

-- a blank is no digit
blank-digit : (base b : ℕ) → base ≤ 16 → ltb (digit_of b) base ≡ true → blank b ≡ false
unfolding digit_of
blank-digit base b h g = by_byte base b (eqb b 32) (eqb b 9) (eqb b 13) refl refl refl h g

digits-clean : (base : ℕ) (s : List ℕ) → base ≤ 16 → are_digits base s ≡ true → clean s ≡ true
unfolding are_digits
digits-clean base [] h g = refl
digits-clean base (b ∷ s) h g =
    let x = each (ltb (digit_of b) base) (are_digits base s) g in
    both (not (blank b)) (clean s) (ap not (blank-digit base b h x.0)) (digits-clean base s h x.1)

first-digit : (s : List ℕ) → are_digits 10 s ≡ true → eqb (Num.first s) 45 ≡ false
unfolding are_digits digit_of
first-digit [] g = refl
first-digit (b ∷ s) g = no_minus b (eqb b 45) refl (each (ltb (digit_of b) 10) (are_digits 10 s) g).0

read-says : (base n : ℕ) (s : List ℕ) → Says base n s → n < 2 ^ 64 → word_digits base 0 s ≡ Some n
unfolding word_digits
read-says base n s h l =
    let v : ltb (value_of base 0 s) (2 ^ 64) ≡ true = rw h.value (lt-ltb n (2 ^ 64) l) in
    rw (both (are_digits base s) (ltb (value_of base 0 s) (2 ^ 64)) h.all v) (ap Some h.value)

some-append : (s : List ℕ) (b : ℕ) → some (s ++ (b ∷ [])) ≡ true
some-append [] b = refl
some-append (c ∷ s) b = refl

some-either : (k n : ℕ) (b : Bool) → some (cond b ((48 + n) ∷ []) (digits k (n / 10) ++ ((48 + n % 10) ∷ []))) ≡ true
some-either k n true = refl
some-either k n false = some-append (digits k (n / 10)) (48 + n % 10)

pub some-decimal : (n : ℕ) → some (decimal n) ≡ true
unfolding digits
some-decimal n = some-either 19 n (ltb n 10)

some-length : (s : List ℕ) → some s ≡ true → eqb (length s) 0 ≡ false
some-length [] h = sym h
some-length (b ∷ s) h = ne_eqb (length (b ∷ s)) 0 (λ (z : length (b ∷ s) ≡ 0). let w : ⊥ = omega (arith, z) in w)

below-20 : (n : ℕ) → n < 2 ^ 64 → n < 10 ^ 20
below-20 n h = omega arith

-- the decimal of n
module _ (n : ℕ) (h : n < 2 ^ 64) where
  said : Says 10 n (decimal n)
  said = decimal-says 19 n (below-20 n h)

  pub decimal-clean : clean (decimal n) ≡ true
  decimal-clean = digits-clean 10 (decimal n) (omega arith) said.all

  decimal-read : Num.word_decimal (decimal n) ≡ Some n
  unfolding Num.word_decimal
  decimal-read = rw (some-length (decimal n) (some-decimal n)) (read-says 10 n (decimal n) said h)

  pub whole_back : word_whole (decimal n) ≡ Some n
  unfolding word_whole
  whole_back = rw (first-digit (decimal n) said.all) decimal-read

  signed_by : word_signed (decimal n) ≡ Num.plain (Some n)
  unfolding word_signed
  signed_by = rw (first-digit (decimal n) said.all) (ap Num.plain decimal-read)

  signed-minus : word_signed (45 ∷ decimal n) ≡ Num.minus (Some n)
  unfolding word_signed
  signed-minus = ap Num.minus decimal-read

pub signed-some : (z : ℤ) → some (signed_text z) ≡ true
signed-some (pos n) = some-decimal n
signed-some (negsuc n) = refl

pub signed-clean : (z : ℤ) → mag z < 2 ^ 63 → clean (signed_text z) ≡ true
signed-clean (pos n) h = decimal-clean n (omega arith)
signed-clean (negsuc n) h = decimal-clean (n + 1) (omega arith)

pub signed_back : (z : ℤ) → mag z < 2 ^ 63 → word_signed (signed_text z) ≡ Some z
signed_back (pos n) h = signed_by n (omega arith) ∙ rw (lt-ltb n (2 ^ 63) h) refl
signed_back (negsuc n) h =
    let e : n + 1 ≡ suc n = omega arith in
    signed-minus (n + 1) (omega arith) ∙ rw (le-leb (n + 1) (2 ^ 63) (omega arith), e) refl

-- ---- the bits of a number

module _ (x : Float) (f : T (fits binary64 x)) (d : T (not (is_nan x))) where
  below : to_bits binary64 x < 2 ^ 64
  below = to_bits-lt binary64 x f

  bits-says : Says 16 (to_bits binary64 x) (places 16 16 (to_bits binary64 x))
  bits-says = places-says 16 (to_bits binary64 x) below

  pub bits-some : some (bits_text x) ≡ true
  bits-some = ap some (bits-else x d)

  pub bits-clean : clean (bits_text x) ≡ true
  bits-clean = ap clean (bits-else x d) ∙ digits-clean 16 (places 16 16 (to_bits binary64 x)) (omega arith) bits-says.all

  pub bits_back : word_number (bits_text x) ≡ Some x
  unfolding word_number pattern_of
  bits_back =
      let n = to_bits binary64 x in
      ap word_number (bits-else x d)
      ∙ ap (λ (b : Bool). cond b (of_pattern (word_digits 16 0 (places 16 16 n))) None) (eq-eqb _ _ (places-length 16 16 n))
      ∙ ap of_pattern (read-says 16 n (places 16 16 n) bits-says below) ∙ ap Some (of_bits-to_bits binary64 x f)
