-- A velocity negated gives the same p_N, to the bit: forward and back agree on what is a straight fall. Assumes nothing.
use Prim.Native.Nat.{ℕ, zero, suc, ◌+◌, ◌-◌, ◌*◌, ◌^◌}
use mathlib.Core.Path.{◌≡◌, refl, sym, ap, ◌∙◌}
use mathlib.Core.Bool.{Bool, true, false, not, cond, ◌&&◌}
use lib.Dec.{ltb, eqb}
use lib.Ieee.{Float, nan, inf, fin, binary64, up, down, odd, units, round, sum, add, sub, mul, neg, unlike}
use lib.Ieee.Fits.{round_is}
use Rattle.real.specs.F64.{◌⊕◌, ◌⊖◌, ◌⊗◌, ◌⊘◌}
use Rattle.vector.specs.declared.Vector.{Vector}
use Rattle.vector.specs.Vectors.{cross_of, negated_of}
use Rattle.conic.specs.Conic.{p_n_of}

-- y is x, or x with the other sign
data Like (x y : Float) : Type 0 where
  same : y ≡ x → Like x y
  turned : y ≡ neg x → Like x y

-- ---- rounding, a product and a difference with the other signs

odd-turned : (d : ℕ) (s : Bool) (q k l : ℕ) → odd d (not s) q k l ≡ neg (odd d s q k l)
unfolding odd neg
odd-turned d s zero k l = refl
odd-turned d s (suc q) k l = refl

units-turned : (s : Bool) (q k : ℕ) → units binary64 (not s) q k ≡ neg (units binary64 s q k)
unfolding units neg
units-turned s q k = go (ltb (q * 2 ^ k) (2 ^ 2098))
  where
    go : (b : Bool) → cond b (odd 54 (not s) q k 1074) (inf (not s)) ≡ neg (cond b (odd 54 s q k 1074) (inf s))
    go true = odd-turned 54 s q k 1074
    go false = refl

round-turned : (s : Bool) (n d : ℕ) → round binary64 (not s) n d ≡ neg (round binary64 s n d)
round-turned s n d = round_is binary64 (not s) n d ∙ units-turned s _ _ ∙ ap neg (sym (round_is binary64 s n d))

unlike-not : (s t : Bool) → unlike s (not t) ≡ not (unlike s t)
unlike-not true true = refl
unlike-not true false = refl
unlike-not false true = refl
unlike-not false false = refl

mul-turned : (x y : Float) → x ⊗ neg y ≡ neg (x ⊗ y)
unfolding mul neg
mul-turned nan y = refl
mul-turned (inf s) nan = refl
mul-turned (inf s) (inf t) = ap inf (unlike-not s t)
mul-turned (inf s) (fin t n d) = go (eqb n 0)
  where
    go : (b : Bool) → cond b nan (inf (unlike s (not t))) ≡ neg (cond b nan (inf (unlike s t)))
    go true = refl
    go false = ap inf (unlike-not s t)
mul-turned (fin s m e) nan = refl
mul-turned (fin s m e) (inf t) = go (eqb m 0)
  where
    go : (b : Bool) → cond b nan (inf (unlike s (not t))) ≡ neg (cond b nan (inf (unlike s t)))
    go true = refl
    go false = ap inf (unlike-not s t)
mul-turned (fin s m e) (fin t n d) =
    ap (λ (b : Bool). round binary64 b (m * up e * (n * up d)) (down e * down d)) (unlike-not s t)
    ∙ round-turned (unlike s t) (m * up e * (n * up d)) (down e * down d)

sum-turned : (s t : Bool) (a b c : ℕ) → Like (sum binary64 s a t b c) (sum binary64 (not s) a (not t) b c)
unfolding sum
sum-turned true true a b c = turned (round-turned true (a + b) c)
sum-turned false false a b c = turned (round-turned false (a + b) c)
sum-turned true false a b c = go (ltb a b) (ltb b a)
  where
    go : (p q : Bool) → Like (cond p (round binary64 false (b - a) c) (round binary64 (true && q) (a - b) c)) (cond p (round binary64 true (b - a) c) (round binary64 (false && q) (a - b) c))
    go true q = turned (round-turned false (b - a) c)
    go false true = turned (round-turned true (a - b) c)
    go false false = same refl
sum-turned false true a b c = go (ltb a b) (ltb b a)
  where
    go : (p q : Bool) → Like (cond p (round binary64 true (b - a) c) (round binary64 (false && q) (a - b) c)) (cond p (round binary64 false (b - a) c) (round binary64 (true && q) (a - b) c))
    go true q = turned (round-turned true (b - a) c)
    go false true = turned (round-turned false (a - b) c)
    go false false = same refl

-- 0 is +0 both ways: that is the one difference that keeps its sign
sub-turned : (x y : Float) → Like (x ⊖ y) (neg x ⊖ neg y)
unfolding sub add neg
sub-turned nan y = same refl
sub-turned (inf s) nan = same refl
sub-turned (inf true) (inf true) = same refl
sub-turned (inf true) (inf false) = turned refl
sub-turned (inf false) (inf true) = turned refl
sub-turned (inf false) (inf false) = same refl
sub-turned (inf s) (fin t n d) = turned refl
sub-turned (fin s m e) nan = same refl
sub-turned (fin s m e) (inf t) = turned refl
sub-turned (fin s m e) (fin t n d) = sum-turned s (not t) (m * up e * down d) (n * up d * down e) (down e * down d)

-- ---- the squares, and so p_N

neg-square : (x : Float) → neg x ⊗ neg x ≡ x ⊗ x
unfolding mul neg
neg-square nan = refl
neg-square (inf true) = refl
neg-square (inf false) = refl
neg-square (fin true m e) = refl
neg-square (fin false m e) = refl

square : (x y : Float) → Like x y → y ⊗ y ≡ x ⊗ x
square x y (same h) = ap (λ (z : Float). z ⊗ z) h
square x y (turned h) = ap (λ (z : Float). z ⊗ z) h ∙ neg-square x

-- a component of a cross product
component : (a b c d : Float) → (a ⊗ neg c ⊖ b ⊗ neg d) ⊗ (a ⊗ neg c ⊖ b ⊗ neg d) ≡ (a ⊗ c ⊖ b ⊗ d) ⊗ (a ⊗ c ⊖ b ⊗ d)
component a b c d =
    let k : a ⊗ neg c ⊖ b ⊗ neg d ≡ neg (a ⊗ c) ⊖ neg (b ⊗ d) =
    ap (λ (u : Float). u ⊖ b ⊗ neg d) (mul-turned a c) ∙ ap (λ (u : Float). neg (a ⊗ c) ⊖ u) (mul-turned b d) in
    ap (λ (u : Float). u ⊗ u) k ∙ square (a ⊗ c ⊖ b ⊗ d) (neg (a ⊗ c) ⊖ neg (b ⊗ d)) (sub-turned (a ⊗ c) (b ⊗ d))

three : (a b c d e f : Float) → a ≡ d → b ≡ e → c ≡ f → a ⊕ b ⊕ c ≡ d ⊕ e ⊕ f
three a b c d e f p q r = ap (λ (u : Float). u ⊕ b ⊕ c) p ∙ ap (λ (u : Float). d ⊕ u ⊕ c) q ∙ ap (λ (u : Float). d ⊕ e ⊕ u) r

pub pN-turned : (r v : Vector) (mu r1 : Float) → p_n_of (cross_of r (negated_of v)) mu r1 ≡ p_n_of (cross_of r v) mu r1
pN-turned r v mu r1 =
    ap (λ (u : Float). u ⊘ mu ⊘ r1)
    (three _ _ _ _ _ _ (component r.y r.z v.z v.y) (component r.z r.x v.x v.z) (component r.x r.y v.y v.x))
