-- Laws of little-endian fields and of two's complement. Assumes nothing.
use Prim.Native.Nat.{ℕ, suc, ◌+◌, ◌-◌, ◌*◌, ◌^◌, ◌≤◌, ◌<◌}
use native.Mathlib.Nat.{sub-zero, pow-suc, pow-le-pow_right, le_refl}
use native.Mathlib.Omega.{arith}
use mathlib.Core.Path.{◌≡◌, refl, sym, ap, ◌∙◌}
use mathlib.Core.Bool.{true, false, true≢false}
use mathlib.Core.List.{List}
use Rattle.std.proofs.Common.{reverse}
use Rattle.std.proofs.lemmas.List.{get_or-reverse, length-reverse}
use Rattle.std.proofs.lemmas.Grind.{get_or_default_zero}
use lib.ListN.{length, get_or, take, drop, length-drop, drop_of_length-le}
use lib.Seq.{drop-cons, take_all}
use lib.Arith.{digits_lt}
use lib.Dec.{lit<}
use lib.IntN.{ℤ, pos, negsuc, ◌-ℤ◌}
use lib.Signed.{mag}
use mir.Syntax.{Width, w64}
use Rattle.std.specs.Int.{from_le_bytes}
use mir.Val.{to_z, hbits}
use mir.Facts.{to_z_pos}
use Rattle.signs.specs.Sign.{negative}
use Rattle.signs.proofs.Halves.{minus_one}
use Rattle.field.specs.Bytes.{le, bits_of}

-- one byte more in front
le-back : (p : List ℕ) (i : ℕ) → 0 < i → i ≤ length p → le (drop (i - 1) p) ≡ le (drop i p) * 256 + get_or p (i - 1) 0
le-back p i h k =
    let e : suc (i - 1) ≡ i = omega arith in
    let l : i - 1 < length p = omega arith in
    ap le (drop-cons p (i - 1) 0 l) ∙ ap (λ (n : ℕ). get_or p (i - 1) 0 + 256 * le (drop n p)) e ∙ omega arith

-- no byte, and all
pub le-none : (p : List ℕ) → 0 ≡ le (drop (length p - 0) p)
le-none p = sym (ap (λ (n : ℕ). le (drop n p)) (sub-zero (length p)) ∙ ap le (drop_of_length-le p (le_refl (length p))))

pub le-all : (p : List ℕ) (n v : ℕ) → n ≡ length p → v ≡ le (drop (length p - n) p) → v ≡ le p
le-all p n v e h =
    let z : length p - n ≡ 0 = omega (arith, e) in
    h ∙ ap (λ (m : ℕ). le (drop m p)) z

-- all eight at once
pub le-eight : (p : List ℕ) → length p ≡ 8 → from_le_bytes w64 p ≡ le p
le-eight p l =
    let z : le (drop 8 p) ≡ 0 = (let k : length p ≤ 8 = omega (arith, l) in ap le (drop_of_length-le p k)) in
    omega (
      arith,
      z,
      le-back p 1 (lit< tt) (omega (arith, l)),
      le-back p 2 (lit< tt) (omega (arith, l)),
      le-back p 3 (lit< tt) (omega (arith, l)),
      le-back p 4 (lit< tt) (omega (arith, l)),
      le-back p 5 (lit< tt) (omega (arith, l)),
      le-back p 6 (lit< tt) (omega (arith, l)),
      le-back p 7 (lit< tt) (omega (arith, l)),
      le-back p 8 (lit< tt) (omega (arith, l)),
    )

-- byte n from the last one on
module _ (p : List ℕ) (n b : ℕ) (t : (n < length (reverse p)) × (b ≡ get_or (reverse p) n b)) where
  pub more-there : n < length p
  more-there = omega (arith, t.0, length-reverse p)

  pub le-more : (m v : ℕ) → m ≡ n + 1 → v ≡ le (drop (length p - n) p) → v * 256 + b ≡ le (drop (length p - m) p)
  le-more m v e h =
      let l = more-there in
      let i = length p - n in
      let k : length p - 1 - n ≡ i - 1 = omega arith in
      let j : length p - m ≡ i - 1 = omega (arith, e) in
      let g : b ≡ get_or p (i - 1) 0 =
      t.1 ∙ get_or-reverse p n b l ∙ ap (λ (x : ℕ). get_or p x b) k ∙ get_or_default_zero p (i - 1) b (omega (arith, l)) in
      ap (λ (x : ℕ). x * 256 + b) h ∙ ap (λ (x : ℕ). le (drop i p) * 256 + x) g ∙ sym (le-back p i (omega (arith, l)) (omega arith))
      ∙ ap (λ (x : ℕ). le (drop x p)) (sym j)

pub below-more : (n m v b : ℕ) → m ≡ n + 1 → v < 256 ^ n → b < 256 → v * 256 + b < 256 ^ m
below-more n m v b e x y =
    let f : m ≡ suc n = omega (arith, e) in
    rw (f, pow-suc) (digits_lt x y)

pub below-seven : (n v : ℕ) → n < 8 → v < 256 ^ n → v < 256 ^ 7
below-seven n v h x =
    let e : n ≤ 7 = omega arith in
    omega (arith, pow-le-pow_right {n = 256} (lit< tt) e)

-- the upper half of the bits of a width, read as signed, by the distance from the top
pub turned : (w : Width) (m n : ℕ) → m - n < 2 ^ hbits w → negsuc 0 -ℤ to_z w (m - n) ≡ negsuc (suc m - suc n)
turned w m n h =
    let e : m - n ≡ suc m - suc n = omega arith in
    ap (λ (z : ℤ). negsuc 0 -ℤ z) (to_z_pos w h) ∙ minus_one (m - n) ∙ ap negsuc e

-- the bits of each half of the signed numbers
pub bits-neg : (z : ℤ) → negative z ≡ true → 18446744073709551615 - mag z ≡ bits_of z
bits-neg (pos n) h = absurd (true≢false (sym h))
bits-neg (negsuc n) h = omega arith

pub bits_pos : (z : ℤ) → negative z ≡ false → mag z ≡ bits_of z
bits_pos (pos n) h = refl
bits_pos (negsuc n) h = absurd (true≢false h)

-- `&s[n..]` is what is left after n bytes
pub rest : (s : List ℕ) (n : ℕ) → take (length s - n) (drop n s) ≡ drop n s
rest s n = take_all (length s - n) (drop n s) (simp length-drop (le_refl (length s - n)))
