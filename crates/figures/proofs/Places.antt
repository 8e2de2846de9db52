-- Laws of the last k digits of a number. Assumes nothing.
use Prim.Native.Nat.{ℕ, zero, suc, ◌+◌, ◌-◌, ◌/◌, ◌%◌, ◌^◌, ◌≤◌, ◌<◌}
use native.Mathlib.Nat.{mod-lt}
use native.Mathlib.Omega.{arith}
use mathlib.Core.Path.{◌≡◌, refl, sym, ap, ◌∙◌}
use mathlib.Core.List.{List, [], ◌∷◌, ◌++◌}
use mathlib.Core.Bool.{Bool, true, false}
use lib.ListN.{length, take, drop, length-append}
use lib.Seq.{take_at}
use lib.Dec.{lit≤}
use Rattle.text.specs.Text.{Stands, Put, digit_text, decimal}
use Rattle.text.proofs.Stand.{at_front, then, same_size}
use Rattle.text.proofs.Decimals.{short}
use Rattle.figures.specs.Figures.{places, minus_text}

pub places-more : (base k n : ℕ) → 0 < k → places base k n ≡ places base (k - 1) (n / base) ++ (digit_text (n % base) ∷ [])
unfolding places
places-more base zero n h = let z : ⊥ = omega arith in absurd z
places-more base (suc k) n h =
    let e : k ≡ suc k - 1 = omega arith in
    ap (λ (j : ℕ). places base j (n / base) ++ (digit_text (n % base) ∷ [])) e

pub places-length : (base k n : ℕ) → length (places base k n) ≡ k
unfolding places
places-length base zero n = refl
places-length base (suc k) n =
    length-append (places base k (n / base)) (digit_text (n % base) ∷ []) ∙ omega (arith, places-length base k (n / base))

small : (d : ℕ) → d < 16 → d % 16 ≡ d
small d h = omega arith

-- the last digit to a base of at most 16
pub last-digit : (base n : ℕ) → 1 ≤ base → base ≤ 16 → digit_text (n % base % 16) ≡ digit_text (n % base)
last-digit base n h l =
    let e : n % base % 16 ≡ n % base = small (n % base) (omega (arith, mod-lt n h)) in
    ap digit_text e

-- what stands at the front of a buffer is the front
pub front : {d x e : List ℕ} {r : ℕ} → Stands d 0 x e r → take r e ≡ x
front {d} {x} {e} {r} p =
    let f = at_front p in
    ap (take r) f.1 ∙ take_at x (drop (length x) d) r (sym f.0)

-- the sign, the whole number and the point, and room for six digits behind them
pub minus-short : (s : Bool) → length (minus_text s) ≤ 1
minus-short true = lit≤ tt
minus-short false = lit≤ tt

pub pointed : {d e f g : List ℕ} {a b r : ℕ} (s : Bool) (n : ℕ) → 24 ≤ length d → n < 2 ^ 63 → Stands d 0 (minus_text s) e a
    → Put e a (decimal (n / 1000000)) f b → Put f b (46 ∷ []) g r
    → Stands d 0 ((minus_text s ++ decimal (n / 1000000)) ++ (46 ∷ [])) g r × (r + 6 ≤ length g)
pointed {d} {e} {f} {g} {a} {b} {r} s n h k p q u =
    let t : n / 1000000 < 10 ^ 13 = omega arith in
    let l = short 20 12 (n / 1000000) t in
    let m = minus-short s in
    let p2 = q.fits (omega (arith, p.next, same_size p)) in
    let v = then p p2 in
    let w = v.next in
    let p3 = u.fits (omega (arith, w, length-append (minus_text s) (decimal (n / 1000000)), same_size v)) in
    let z = then v p3 in
    (z, omega (arith, p3.next, w, length-append (minus_text s) (decimal (n / 1000000)), same_size z))
