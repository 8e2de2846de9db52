-- The digits of a number: how many there are, and that they are the number. Assumes nothing.
use Prim.Native.Nat.{ℕ, zero, suc, ◌+◌, ◌-◌, ◌*◌, ◌/◌, ◌%◌, ◌^◌, ◌≤◌, ◌<◌, zero-le, suc-le-suc}
use native.Mathlib.Nat.{pow-suc}
use native.Mathlib.Omega.{arith}
use native.Mathlib.Numerals.{add-one}
use mathlib.Core.Path.{◌≡◌, refl, sym, ap, ◌∙◌}
use mathlib.Core.List.{List, [], ◌∷◌, ◌++◌}
use mathlib.Core.Bool.{Bool, true, false, cond}
use lib.ListN.{length, length-append}
use lib.Dec.{ltb}
use borrow.Author.Tests.{lt-ltb, le-ltb, ltb-true, ltb-false}
use Rattle.text.specs.Text.{digits, decimal}

-- n below ten to the k has at most k digits
few : (f k n : ℕ) (b : Bool) → ((j : ℕ) → n / 10 < 10 ^ suc j → length (digits f (n / 10)) ≤ suc j) → ltb n 10 ≡ b → n < 10 ^ suc k
    → length (cond b ((48 + n) ∷ []) (digits f (n / 10) ++ ((48 + n % 10) ∷ []))) ≤ suc k
few f k n true i e h = suc-le-suc zero-le
few f zero n false i e h = let z : ⊥ = omega (arith, ltb-false n 10 e, h) in absurd z
few f (suc j) n false i e h =
    let q : n / 10 < 10 ^ suc j = omega (arith, rw pow-suc at h) in
    simp length-append (omega (arith, i j q))

pub short : (f k n : ℕ) → n < 10 ^ suc k → length (digits f n) ≤ suc k
unfolding digits
short zero k n h = zero-le
short (suc f) k n h = few f k n (ltb n 10) (λ j q. short f j (n / 10) q) refl h

-- the digits of n: none, one, or one more
pub digits-none : (k n : ℕ) → k ≡ 0 → digits k n ≡ []
unfolding digits
digits-none k n e = rw e refl

pub digits-one : (k n : ℕ) → (k ≡ 0 → ⊥) → n < 10 → digits k n ≡ (48 + n) ∷ []
unfolding digits
digits-one zero n z h = absurd (z refl)
digits-one (suc k) n z h = simp (lt-ltb n 10 h)

pub digits_more : (k n : ℕ) → (k ≡ 0 → ⊥) → 10 ≤ n → digits k n ≡ digits (k - 1) (n / 10) ++ ((48 + n % 10) ∷ [])
unfolding digits
digits_more zero n z h = absurd (z refl)
digits_more (suc k) n z h =
    let e : k ≡ suc k - 1 = omega arith in
    simp (le-ltb n 10 h) (ap (λ (j : ℕ). digits j (n / 10) ++ ((48 + n % 10) ∷ [])) e)

pub digits-longer : (k n : ℕ) → (k ≡ 0 → ⊥) → 10 ≤ n → length (digits k n) ≡ length (digits (k - 1) (n / 10)) + 1
digits-longer k n z h = ap length (digits_more k n z h) ∙ length-append (digits (k - 1) (n / 10)) ((48 + n % 10) ∷ [])

-- at most as many digits as are asked for
fewer : (k n : ℕ) (b : Bool) → length (digits k (n / 10)) ≤ k
    → length (cond b ((48 + n) ∷ []) (digits k (n / 10) ++ ((48 + n % 10) ∷ []))) ≤ suc k
fewer k n true h = suc-le-suc zero-le
fewer k n false h = simp length-append (omega arith)

pub at_most : (k n : ℕ) → length (digits k n) ≤ k
unfolding digits
at_most zero n = zero-le
at_most (suc k) n = fewer k n (ltb n 10) (at_most k (n / 10))

-- the last k decimal digits of n
unfoldable pub lasts : ℕ → ℕ → List ℕ
lasts zero n = []
lasts (suc k) n = lasts k (n / 10) ++ ((48 + n % 10) ∷ [])

pub lasts-more : (k n : ℕ) → 0 < k → lasts k n ≡ lasts (k - 1) (n / 10) ++ ((48 + n % 10) ∷ [])
unfolding lasts
lasts-more zero n h = let z : ⊥ = omega arith in absurd z
lasts-more (suc k) n h =
    let e : k ≡ suc k - 1 = omega arith in
    ap (λ (j : ℕ). lasts j (n / 10) ++ ((48 + n % 10) ∷ [])) e

-- the digits of n are its last ones, as many as there are
lasts-either : (k n : ℕ) (b : Bool) → ltb n 10 ≡ b → digits k (n / 10) ≡ lasts (length (digits k (n / 10))) (n / 10)
    → let x = cond b ((48 + n) ∷ []) (digits k (n / 10) ++ ((48 + n % 10) ∷ [])) in x ≡ lasts (length x) n
unfolding lasts
lasts-either k n true e h = let m : n ≡ n % 10 = omega (arith, ltb-true n 10 e) in ap (λ (d : ℕ). (48 + d) ∷ []) m
lasts-either k n false e h =
    ap (λ (l : List ℕ). l ++ ((48 + n % 10) ∷ [])) h
    ∙ ap (λ (j : ℕ). lasts j n) (sym (length-append (digits k (n / 10)) ((48 + n % 10) ∷ []) ∙ add-one _))

pub all-lasts : (k n : ℕ) → digits k n ≡ lasts (length (digits k n)) n
unfolding digits lasts
all-lasts zero n = refl
all-lasts (suc k) n = lasts-either k n (ltb n 10) refl (all-lasts k (n / 10))

-- the number that decimal digits stand for, behind those whose value is v
abbrev pub value_from : ℕ → List ℕ → ℕ
value_from v [] = v
value_from v (x ∷ xs) = value_from (v * 10 + (x - 48)) xs

value-append : (v : ℕ) (xs : List ℕ) (x : ℕ) → value_from v (xs ++ (x ∷ [])) ≡ value_from v xs * 10 + (x - 48)
value-append v [] x = refl
value-append v (y ∷ xs) x = value-append (v * 10 + (y - 48)) xs x

value-either : (k n : ℕ) (b : Bool) → ltb n 10 ≡ b → value_from 0 (digits k (n / 10)) ≡ n / 10
    → value_from 0 (cond b ((48 + n) ∷ []) (digits k (n / 10) ++ ((48 + n % 10) ∷ []))) ≡ n
value-either k n true e h = omega arith
value-either k n false e h = value-append 0 (digits k (n / 10)) (48 + n % 10) ∙ omega arith

value-digits : (k n : ℕ) → n < 10 ^ k → value_from 0 (digits k n) ≡ n
unfolding digits
value-digits zero n h = omega arith
value-digits (suc k) n h =
    let l : n / 10 < 10 ^ k = omega (arith, rw pow-suc at h) in
    value-either k n (ltb n 10) refl (value-digits k (n / 10) l)

-- the text of a 64-bit number stands for it: twenty digits are enough
pub decimal-value : (n : ℕ) → n < 2 ^ 64 → value_from 0 (decimal n) ≡ n
decimal-value n h = let l : n < 10 ^ 20 = omega arith in value-digits 20 n l
