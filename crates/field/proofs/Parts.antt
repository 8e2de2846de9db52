-- The bytes of a field that are there. Assumes nothing.
use Prim.Native.Nat.{ℕ, ◌+◌, ◌-◌, ◌^◌, ◌≤◌, ◌<◌, min}
use native.Mathlib.Nat.{le_refl, le_of_lt, lt_of_lt_of_le, pow-le-pow_right, one-le-pow}
use native.Mathlib.Omega.{arith, min_cases}
use mathlib.Core.Path.{◌≡◌, sym, ap, ◌∙◌}
use mathlib.Core.List.{List}
use lib.ListN.{length, take, drop, length-take, length-drop, drop_of_length-le}
use lib.Seq.{take_all, take-nil}
use lib.Dec.{lit<}
use Rattle.field.specs.Bytes.{le, field}

-- no byte is there behind the end
pub none-there : (s : List ℕ) (o w : ℕ) → length s < o → 0 ≡ field o w s
none-there s o w h = sym (ap (λ (l : List ℕ). le (take w l)) (drop_of_length-le s (le_of_lt h)) ∙ ap le (take-nil w))

pub some : (w : ℕ) → 0 < 256 ^ w
some w = one-le-pow w 256 (lit< tt)

-- w bytes, or those that are there
there : (w : ℕ) (l : List ℕ) → take (min w (length l)) l ≡ take w l
there w l =
    min_cases w (length l) (take (min w (length l)) l ≡ take w l)
    (λ h e. ap (λ (k : ℕ). take k l) e)
    (λ h e. ap (λ (k : ℕ). take k l) e ∙ take_all (length l) l (le_refl (length l)) ∙ sym (take_all w l h))

module _ (s : List ℕ) (o w n : ℕ) (h : o ≤ length s) (e : n ≡ min w (length s - o)) where
  pub part : take (o + n - o) (drop o s) ≡ take w (drop o s)
  part =
      let k : o + n - o ≡ min w (length (drop o s)) = simp length-drop (omega (arith, e)) in
      ap (λ (j : ℕ). take j (drop o s)) k ∙ there w (drop o s)

  pub part-short : length (take (o + n - o) (drop o s)) ≤ w
  part-short = simp length-take (omega (arith, e))

  pub part-below : (v : ℕ) → v < 256 ^ length (take (o + n - o) (drop o s)) → v < 256 ^ w
  part-below v l = lt_of_lt_of_le l (pow-le-pow_right {n = 256} (lit< tt) part-short)
