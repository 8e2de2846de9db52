-- A difference of two whole times is the difference of the two raised by 2^63. Assumes nothing.
use Rattle.std.proofs.Common.{◌≡◌, ℕ, zero, suc, ◌+◌, ◌-◌, ◌^◌, ◌<◌, ◌≤◌, Bool, true, false, cond, ltb, ℤ, pos, negsuc, ◌-ℤ◌, nat_abs, sym, refl, ap, ◌∙◌, arith, ltb-false, ltb-true, le-ltb, lt-ltb}
use lib.IntN.{sub_ℕ}
use lib.Signed.{mag}
use Rattle.elapsed.specs.Elapsed.{raised, apart_of}

-- ---- a difference of two natural numbers

sub-pos : (x y n : ℕ) → x ≡ y + n → sub_ℕ x y ≡ pos n
sub-pos x y n e = ap (λ (t : Bool). cond t (negsuc (y - suc x)) (pos (x - y))) (le-ltb x y (omega arith)) ∙ ap pos (rest x y n e)
  where
    rest : (x y n : ℕ) → x ≡ y + n → x - y ≡ n
    rest x y n e = omega arith

sub-neg : (x y n : ℕ) → y ≡ x + suc n → sub_ℕ x y ≡ negsuc n
sub-neg x y n e = ap (λ (t : Bool). cond t (negsuc (y - suc x)) (pos (x - y))) (lt-ltb x y (omega arith)) ∙ ap negsuc (rest x y n e)
  where
    rest : (x y n : ℕ) → y ≡ x + suc n → y - suc x ≡ n
    rest x y n e = omega arith

sub_same : (x y a b : ℕ) → x + b ≡ a + y → sub_ℕ x y ≡ sub_ℕ a b
sub_same x y a b e = go (ltb a b) refl
  where
    below : (x y a b : ℕ) → x + b ≡ a + y → a < b → y ≡ x + suc (b - suc a)
    below x y a b e h = omega arith

    above : (x y a b : ℕ) → x + b ≡ a + y → b ≤ a → x ≡ y + (a - b)
    above x y a b e h = omega arith

    go : (t : Bool) → ltb a b ≡ t → sub_ℕ x y ≡ cond t (negsuc (b - suc a)) (pos (a - b))
    go true h = sub-neg x y (b - suc a) (below x y a b e (ltb-true a b h))
    go false h = sub-pos x y (a - b) (above x y a b e (ltb-false a b h))

pub sub-apart : (x y : ℕ) → nat_abs (sub_ℕ x y) ≡ apart_of y x
sub-apart x y = go (ltb x y) refl
  where
    below : (x y : ℕ) → x < y → suc (y - suc x) ≡ (y - x) + (x - y)
    below x y h = omega arith

    above : (x y : ℕ) → y ≤ x → x - y ≡ (y - x) + (x - y)
    above x y h = omega arith

    go : (t : Bool) → ltb x y ≡ t → nat_abs (cond t (negsuc (y - suc x)) (pos (x - y))) ≡ (y - x) + (x - y)
    go true h = below x y (ltb-true x y h)
    go false h = above x y (ltb-false x y h)

-- ---- the times

pub difference : (a b : ℤ) → mag a < 2 ^ 63 → mag b < 2 ^ 63 → b -ℤ a ≡ sub_ℕ (raised b) (raised a)
unfolding raised
difference (pos zero) (pos n) h k = sym (sub-pos (2 ^ 63 + n) (2 ^ 63 + 0) (n + 0) (omega arith))
difference (pos (suc m)) (pos n) h k = sub_same n (suc m) (2 ^ 63 + n) (2 ^ 63 + suc m) (omega arith)
difference (pos zero) (negsuc n) h k = sub_same 0 (suc n) (2 ^ 63 - (1 + n)) (2 ^ 63 + 0) (omega arith)
difference (pos (suc m)) (negsuc n) h k = sym (sub-neg (2 ^ 63 - (1 + n)) (2 ^ 63 + suc m) (suc (n + m)) (omega arith))
difference (negsuc m) (pos n) h k = sym (sub-pos (2 ^ 63 + n) (2 ^ 63 - (1 + m)) (n + suc m) (omega arith))
difference (negsuc m) (negsuc n) h k = sub_same (suc m) (suc n) (2 ^ 63 - (1 + n)) (2 ^ 63 - (1 + m)) (omega arith)

-- ---- what the code does with them

pub size_is : (a b : ℤ) → mag a < 2 ^ 63 → mag b < 2 ^ 63 → nat_abs (b -ℤ a) ≡ apart_of (raised a) (raised b)
size_is a b h k = ap nat_abs (difference a b h k) ∙ sub-apart (raised b) (raised a)
