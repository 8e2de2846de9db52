-- A decimal is the f64 nearest to the number that it says: its whole number and the power of ten are exact, and their quotient is rounded once.
-- Assumes nothing.
use Rattle.std.specs.Prelude.{None, Option, Some}
use Rattle.std.proofs.Common.{◌≡◌, ℕ, suc, ◌+◌, ◌*◌, ◌^◌, ◌<◌, ◌≤◌, Bool, true, false, cond, not, eqb, ltb, List, [], ◌∷◌, length, pos, sym, refl, ap, ◌∙◌, subst, le_trans, lt_of_lt_of_le, le_of_lt, lt_irrefl, mul-le-mul_right, mul_assoc, mul_comm, add-mul, pos_of_ne-zero, mul-pos, one-mul, zero-mul, mul-one, arith, lit<, lit≤, length-append, ltb-true, ne_eqb, leb-true}
use native.Mathlib.Nat.{pow-succ', pow-zero, pow-le-pow_right, one-le-pow}
use lib.Ieee.{Float, nan, inf, fin, Format, binary64, up, down, round, div, of_int}
use lib.Ieee.Back.{round_whole}
use lib.Ieee.Exact.{HasValue}
use lib.Ieee.Fits.{down_pos, up_pos}
use lib.Ieee.Scale.{round_same}
use Rattle.facts.proofs.Truth.{and_0, and-1}
use Rattle.words.specs.declared.Byte.TheVariants.{Point}
use Rattle.words.specs.Words.{up_to, from}
use Rattle.numerals.specs.Numbers.{digit_of, are_digits, value_of, word_digits, decimals, all_digits, well_formed, over_ten, unsigned_of}
use Rattle.numerals.proofs.Values.{read_is}

-- ---- the quotient of two whole numbers that are exact

crossed : (f : Format) (m n a b u v x y : ℕ) → 0 < n → 0 < x → 0 < v → 0 < b → m * u * 1 ≡ a * x → n * v * 1 ≡ b * y
    → round f false (m * u * y) (n * v * x) ≡ round f false a b
crossed f m n a b u v x y hn hx hv hb h k =
    round_same f false (m * u * y) (n * v * x) a b (mul-pos (mul-pos hn hv) hx) hb
    (ap (λ (z : ℕ). z * y * b) (sym (mul-one (m * u)) ∙ h)
    ∙ mul_assoc (a * x) y b
    ∙ ap (λ (z : ℕ). a * x * z) (mul_comm y b ∙ sym k ∙ mul-one (n * v))
    ∙ mul_assoc a x (n * v)
    ∙ ap (λ (z : ℕ). a * z) (mul_comm x (n * v)))

above_zero : (n b x y : ℕ) → 0 < b → 0 < y → n * x * 1 ≡ b * y → n ≡ 0 → ⊥
above_zero n b x y hb hy h e =
    let z : n * x * 1 ≡ 0 = ap (λ (k : ℕ). k * x * 1) e ∙ ap (λ (k : ℕ). k * 1) (zero-mul x) in
    lt_irrefl 0 (subst (λ (k : ℕ). 0 < k) (sym h ∙ z) (mul-pos hb hy))

pub quotient : (f : Format) (x y : Float) (a b : ℕ) → 0 < b → HasValue x false a 1 → HasValue y false b 1 → div f x y ≡ round f false a b
unfolding div
quotient f nan y a b p h k = absurd h
quotient f (inf s) y a b p h k = absurd h
quotient f (fin s m e) nan a b p h k = absurd k
quotient f (fin s m e) (inf t) a b p h k = absurd k
quotient f (fin s m e) (fin t n d) a b p h k =
    let z = above_zero n b (up d) (down d) p (down_pos d) k.1 in
    rw (ne_eqb n 0 z, h.0, k.0)
    (crossed f m n a b (up e) (up d) (down e) (down d) (pos_of_ne-zero z) (down_pos e) (up_pos d) p h.1 k.1)

pub exact : (n k : ℕ) → n ≤ 2 ^ 53 → 10 ^ k ≤ 2 ^ 53 → div binary64 (of_int binary64 (pos n)) (of_int binary64 (pos (10 ^ k))) ≡ round binary64 false n (10 ^ k)
unfolding of_int
exact n k h l =
    quotient binary64 (round binary64 false n 1) (round binary64 false (10 ^ k) 1) n (10 ^ k) (one-le-pow k 10 (lit< tt))
    (round_whole binary64 false n h) (round_whole binary64 false (10 ^ k) l)

-- ---- the digits of a decimal

-- digits behind v make less than v + 1 with as many zeros
pub below : (base v : ℕ) (s : List ℕ) → are_digits base s ≡ true → value_of base v s < (v + 1) * base ^ length s
unfolding are_digits value_of
below base v [] e = rw (pow-zero base) (omega arith)
below base v (b ∷ s) e =
    let d : digit_of b < base = ltb-true (digit_of b) base (and_0 (ltb (digit_of b) base) (are_digits base s) e) in
    let r = below base (v * base + digit_of b) s (and-1 (ltb (digit_of b) base) (are_digits base s) e) in
    let g : v * base + digit_of b + 1 ≤ (v + 1) * base = rw (add-mul v 1 base, one-mul base) (omega arith) in
    let q : (v + 1) * base ^ suc (length s) ≡ (v + 1) * base * base ^ length s = ap (λ (z : ℕ). (v + 1) * z) (pow-succ' base (length s)) ∙ sym (mul_assoc (v + 1) base (base ^ length s)) in
    rw q (lt_of_lt_of_le r (mul-le-mul_right (base ^ length s) g))

sizes : (s : List ℕ) → well_formed s ≡ true → length (all_digits s) ≤ 15
unfolding well_formed
sizes s e = leb-true (length (all_digits s)) 15 (and-1 (not (eqb (length (from Point s)) 1)) _ (and-1 (not (eqb (length (up_to Point s)) 0)) _ e))

-- what is read is the nearest f64 to the whole number of the digits over the power of ten: IEEE 754's one rounding of the exact fraction
pub nearest : (s : List ℕ) (x : Float) → unsigned_of s ≡ Some x → x ≡ round binary64 false (value_of 10 0 (all_digits s)) (10 ^ length (decimals s))
unfolding unsigned_of
nearest s x e = formed (well_formed s) refl e
  where
    read : (w : Option ℕ) → well_formed s ≡ true → word_digits 10 0 (all_digits s) ≡ w → over_ten (length (decimals s)) w ≡ Some x → x ≡ round binary64 false (value_of 10 0 (all_digits s)) (10 ^ length (decimals s))
    read (Some n) f g h =
        let r = read_is 10 0 (all_digits s) n g in
        let l = sizes s f in
        let p : length (decimals s) ≤ 15 = omega (arith, length-append (up_to Point s) (decimals s)) in
        let u : n ≤ 2 ^ 53 = le_of_lt (lt_of_lt_of_le (rw (r.1, one-mul (10 ^ length (all_digits s))) at (below 10 0 (all_digits s) r.0)) (le_trans (pow-le-pow_right {n = 10} (lit< tt) l) (lit≤ tt))) in
        let v : 10 ^ length (decimals s) ≤ 2 ^ 53 = le_trans (pow-le-pow_right {n = 10} (lit< tt) p) (lit≤ tt) in
        let y : div binary64 (of_int binary64 (pos n)) (of_int binary64 (pos (10 ^ length (decimals s)))) ≡ x = cc in
        sym y ∙ exact n (length (decimals s)) u v ∙ rw r.1 refl
    read None f g h = let z : ◌≡◌ {A = ℕ} 0 1 = cc in absurd (omega arith)

    formed : (b : Bool) → well_formed s ≡ b → cond b (over_ten (length (decimals s)) (word_digits 10 0 (all_digits s))) None ≡ Some x → x ≡ round binary64 false (value_of 10 0 (all_digits s)) (10 ^ length (decimals s))
    formed true f h = read (word_digits 10 0 (all_digits s)) f refl h
    formed false f h = let z : ◌≡◌ {A = ℕ} 0 1 = cc in absurd (omega arith)
