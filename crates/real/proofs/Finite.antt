-- What is finite: a number that passes a range test; and what is not. Assumes nothing.
use Rattle.std.proofs.Common.{◌≡◌, zero, suc, ◌*◌, ◌<◌, Bool, true, false, cond, eqb, refl, zero-lt-suc, mul-pos, arith, eqb→eq}
use mathlib.Core.Bool.{false≢true}
use lib.Ieee.{Float, nan, inf, fin, up, down, unlike, div, lt, le, eq, neg, of_bits}
use lib.Ieee.Fits.{up_pos}
use Rattle.facts.proofs.Truth.{of-true, and_0}
use Rattle.real.specs.F64.{◌⊘◌, ◌<ᶠ◌, ◌≤ᶠ◌, f0, finite, size_of}

-- a size under a finite limit, or at most one
pub size-under : (x y : Float) → finite y ≡ true → (size_of x <ᶠ y) ≡ true → finite x ≡ true
unfolding lt neg of_bits
size-under x nan g h = absurd (false≢true g)
size-under x (inf s) g h = absurd (false≢true g)
size-under nan (fin t n d) g h = h
size-under (inf true) (fin t n d) g h = h
size-under (inf false) (fin t n d) g h = h
size-under (fin s m e) (fin t n d) g h = refl

pub size-at-most : (x y : Float) → finite y ≡ true → (size_of x ≤ᶠ y) ≡ true → finite x ≡ true
unfolding le lt eq neg of_bits
size-at-most x nan g h = absurd (false≢true g)
size-at-most x (inf s) g h = absurd (false≢true g)
size-at-most nan (fin t n d) g h = h
size-at-most (inf true) (fin t n d) g h = h
size-at-most (inf false) (fin t n d) g h = h
size-at-most (fin s m e) (fin t n d) g h = refl

-- between two finite limits
pub between : (x a b : Float) → finite a ≡ true → finite b ≡ true → (a ≤ᶠ x) ≡ true → (x ≤ᶠ b) ≡ true → finite x ≡ true
unfolding le lt eq
between x nan b p q g h = absurd (false≢true p)
between x (inf s) b p q g h = absurd (false≢true p)
between x (fin s m e) nan p q g h = absurd (false≢true q)
between x (fin s m e) (inf t) p q g h = absurd (false≢true q)
between nan (fin s m e) (fin t n d) p q g h = g
between (inf true) (fin s m e) (fin t n d) p q g h = g
between (inf false) (fin s m e) (fin t n d) p q g h = h
between (fin u k c) (fin s m e) (fin t n d) p q g h = refl

-- dividing by a zero gives an infinity or a NaN
pub divided-by-zero : (x y : Float) → eq y f0 ≡ true → finite (x ⊘ y) ≡ false
unfolding div eq of_bits
divided-by-zero nan y h = refl
divided-by-zero (inf s) nan h = refl
divided-by-zero (inf s) (inf t) h = refl
divided-by-zero (inf s) (fin t n d) h = refl
divided-by-zero (fin s m e) nan h = refl
divided-by-zero (fin s m e) (inf t) h = absurd (false≢true h)
divided-by-zero (fin s m e) (fin t zero d) h = go (eqb m 0)
  where
    go : (b : Bool) → finite (cond b nan (inf (unlike s t))) ≡ false
    go true = refl
    go false = refl
divided-by-zero (fin s m e) (fin t (suc n) d) h =
    let p : 0 < suc n * up d = mul-pos (zero-lt-suc n) (up_pos d) in
    let q : suc n * up d * 1 ≡ 0 * down d = eqb→eq _ _ (of-true (and_0 (eqb (suc n * up d * 1) (0 * down d)) _ h)) in
    absurd (omega arith)
