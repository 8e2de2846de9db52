-- Sizes past 2^53, sizes from below, and what the tests of a unit vector say of its components. Assumes nothing.
use Rattle.std.proofs.Common.{◌≡◌, ℕ, zero, suc, ◌+◌, ◌-◌, ◌*◌, ◌/◌, ◌^◌, ◌<◌, ◌≤◌, Bool, true, false, cond, ◌&&◌, T, eqb, ltb, ℤ, pos, sym, refl, ap, ◌∙◌, subst, le_trans, le_of_eq, lt_of_lt_of_le, le_of_lt, mul-le-mul_right, mul_assoc, mul_comm, div-lt_iff_lt-mul, add-mul, mul-le-mul, lt_of_mul-lt-mul_right, mul-pos, mul-one, mul_right_comm, arith, lit≤, eqb→eq, ltb-false, ltb-true, le-ltb}
use native.Mathlib.Nat.{mul-mul-mul_comm, div-le_of_le-mul}
use mathlib.Core.Bool.{beq, false≢true}
use lib.Ieee as Ieee
use lib.Ieee.{Float, nan, inf, fin, binary64, up, down, round, sum, fits, of_bits}
use lib.Ieee.Exact.{HasValue}
use lib.Ieee.Order.{round_mono}
use lib.Ieee.Fits.{down_pos, up_pos, and_r, add-fits}
use Rattle.real.specs.F64.{◌⊕◌, ◌⊖◌, ◌⊗◌, ◌≤ᶠ◌, ◌<ᶠ◌, two^, two^-, f1, finite, size_of}
use Rattle.real.proofs.Bounds.{Within, Signed, round-signed, round-within, below-whole, or_cases, round-from-1, neg-within}
use Rattle.real.proofs.Finite.{size-at-most}
use Rattle.vector.specs.declared.Vector.{Vector}
use Rattle.vector.specs.Vectors.{dot_of, length_of, scaled_of, sum_of}
use Rattle.rows.proofs.Components.{Finite}
use Rattle.root.specs.Root.{root_of, units_of, Plus}
use Rattle.root.proofs.Near.{nearest-is}
use Rattle.root.proofs.Sign.{NotBelow, root-not-below}

-- ---- operations whose exact result is at most a number of f64 in size

-- a is a number of f64
abbrev pub Held : ℕ → Type 0
Held a = HasValue (round binary64 false a 1) false a 1

round-at : (s : Bool) (n d a : ℕ) → Held a → 0 < d → n ≤ a * d → Within (round binary64 s n d) a
round-at s n d a v p h =
    round-within binary64 s n d a
    (below-whole (round binary64 false n d) (round binary64 false a 1) a (round-signed binary64 false n d)
    (round_mono binary64 n d a 1 p (lit≤ tt) (simp mul-one h)) v)

pub mul_at : (x y : Float) (a b : ℕ) → Held (a * b) → Within x a → Within y b → Within (x ⊗ y) (a * b)
unfolding Ieee.mul
mul_at nan y a b l h k = absurd h
mul_at (inf s) y a b l h k = absurd h
mul_at (fin s m e) nan a b l h k = absurd k
mul_at (fin s m e) (inf t) a b l h k = absurd k
mul_at (fin s m e) (fin t n d) a b l h k =
    round-at (Ieee.unlike s t) (m * up e * (n * up d)) (down e * down d) (a * b) l (mul-pos (down_pos e) (down_pos d))
    (subst (λ (z : ℕ). m * up e * (n * up d) ≤ z) (mul-mul-mul_comm a (down e) b (down d)) (mul-le-mul h k))

sum-at : (s t : Bool) (A B C a b : ℕ) → Held (a + b) → 0 < C → A ≤ a * C → B ≤ b * C → Within (sum binary64 s A t B C) (a + b)
unfolding sum
sum-at s t A B C a b l p h k = go (beq s t) (ltb A B)
  where
    go : (u v : Bool) → Within (cond u (round binary64 s (A + B) C) (cond v (round binary64 t (B - A) C) (round binary64 (s && ltb B A) (A - B) C))) (a + b)
    go true v = round-at s (A + B) C (a + b) l p (omega (arith, add-mul a b C))
    go false true = round-at t (B - A) C (a + b) l p (omega (arith, add-mul a b C))
    go false false = round-at (s && ltb B A) (A - B) C (a + b) l p (omega (arith, add-mul a b C))

pub add_at : (x y : Float) (a b : ℕ) → Held (a + b) → Within x a → Within y b → Within (x ⊕ y) (a + b)
unfolding Ieee.add
add_at nan y a b l h k = absurd h
add_at (inf s) y a b l h k = absurd h
add_at (fin s m e) nan a b l h k = absurd k
add_at (fin s m e) (inf t) a b l h k = absurd k
add_at (fin s m e) (fin t n d) a b l h k =
    sum-at s t (m * up e * down d) (n * up d * down e) (down e * down d) a b l (mul-pos (down_pos e) (down_pos d))
    (subst (λ (z : ℕ). m * up e * down d ≤ z) (mul_assoc a (down e) (down d)) (mul-le-mul_right (down d) h))
    (subst (λ (z : ℕ). n * up d * down e ≤ z) (mul_assoc b (down d) (down e) ∙ ap (λ (z : ℕ). b * z) (mul_comm (down d) (down e))) (mul-le-mul_right (down e) k))

pub sub_at : (x y : Float) (a b : ℕ) → Held (a + b) → Within x a → Within y b → Within (x ⊖ y) (a + b)
unfolding Ieee.sub
sub_at x y a b l h k = add_at x (Ieee.neg y) a b l h (neg-within y b k)

-- ---- a size under 2^29

pub under-2^29 : (x : Float) → (size_of x <ᶠ two^ 29) ≡ true → Within x 536870912
unfolding Ieee.lt Ieee.neg of_bits
under-2^29 nan g = absurd (false≢true g)
under-2^29 (inf true) g = absurd (false≢true g)
under-2^29 (inf false) g = absurd (false≢true g)
under-2^29 (fin true zero e) g = omega arith
under-2^29 (fin true (suc m) e) g = negative (ltb 0 (suc m * up e * 1 + 0 * up (pos 0) * down e)) refl g
  where
    some : (k : ℕ) → 0 < suc k * up e
    some k = mul-pos (omega arith) (up_pos e)

    negative : (b : Bool) → ltb 0 (suc m * up e * 1 + 0 * up (pos 0) * down e) ≡ b → Ieee.lt (cond b (Ieee.neg (fin true (suc m) e)) (fin true (suc m) e)) (two^ 29) ≡ true → suc m * up e ≤ 536870912 * down e
    negative true p g = let k = ltb-true (suc m * up e * 1) (536870912 * down e) g in omega arith
    negative false p g = let k = ltb-false 0 (suc m * up e * 1 + 0 * up (pos 0) * down e) p in absurd (omega (arith, some m))
under-2^29 (fin false m e) g = positive (ltb (m * up e * 1) (0 * up (pos 0) * down e)) refl g
  where
    positive : (b : Bool) → ltb (m * up e * 1) (0 * up (pos 0) * down e) ≡ b → Ieee.lt (cond b (Ieee.neg (fin false m e)) (fin false m e)) (two^ 29) ≡ true → m * up e ≤ 536870912 * down e
    positive true p g = let k = ltb-true (m * up e * 1) (0 * up (pos 0) * down e) p in absurd (omega arith)
    positive false p g = let k = ltb-true (m * up e * 1) (536870912 * down e) g in omega arith

-- ---- 8 or more

abbrev Over8 : Float → Type 0
Over8 x = T (fin false 1 (pos 3) ≤ᶠ x)

fraction-8 : (n d : ℕ) → 0 < d → 8 * d ≤ n → Over8 (round binary64 false n d)
unfolding round
fraction-8 n d p h = round_mono binary64 8 1 n d (lit≤ tt) p (omega arith)

nine : (D M : ℕ) → 3 * D < M → 8 * (D * D) ≤ M * M
nine D M h =
    let k : 3 * D * (3 * D) ≤ M * M = mul-le-mul (le_of_lt h) (le_of_lt h) in
    omega (arith, mul-mul-mul_comm 3 D 3 D)

square-signed : (x : Float) → finite x ≡ true → Signed (x ⊗ x) false
unfolding Ieee.mul
square-signed nan g = absurd (false≢true g)
square-signed (inf s) g = absurd (false≢true g)
square-signed (fin true m e) g = round-signed binary64 false (m * up e * (m * up e)) (down e * down e)
square-signed (fin false m e) g = round-signed binary64 false (m * up e * (m * up e)) (down e * down e)

square-over : (s : Bool) (m : ℕ) (e : ℤ) → 3 * down e < m * up e → Over8 (fin s m e ⊗ fin s m e)
unfolding Ieee.mul
square-over true m e h = fraction-8 (m * up e * (m * up e)) (down e * down e) (mul-pos (down_pos e) (down_pos e)) (nine (down e) (m * up e) h)
square-over false m e h = fraction-8 (m * up e * (m * up e)) (down e * down e) (mul-pos (down_pos e) (down_pos e)) (nine (down e) (m * up e) h)

-- a sum of two that are not below zero
plus-signed : (x y : Float) → Signed x false → Signed y false → Signed (x ⊕ y) false
unfolding Ieee.add sum
plus-signed nan y g h = absurd g
plus-signed (inf true) y g h = absurd (false≢true (sym g))
plus-signed (fin true m e) y g h = absurd (false≢true (sym g))
plus-signed (inf false) nan g h = absurd h
plus-signed (inf false) (inf true) g h = absurd (false≢true (sym h))
plus-signed (inf false) (inf false) g h = refl
plus-signed (inf false) (fin t n d) g h = refl
plus-signed (fin false m e) nan g h = absurd h
plus-signed (fin false m e) (inf true) g h = absurd (false≢true (sym h))
plus-signed (fin false m e) (inf false) g h = refl
plus-signed (fin false m e) (fin true n d) g h = absurd (false≢true (sym h))
plus-signed (fin false m e) (fin false n d) g h = round-signed binary64 false (m * up e * down d + n * up d * down e) (down e * down d)

wide : (D E M N : ℕ) → 8 * D ≤ M → 8 * (D * E) ≤ M * E + N
wide D E M N h =
    let k : 8 * D * E ≤ M * E = mul-le-mul_right E h in
    omega (arith, mul_assoc 8 D E)

left_over : (x y : Float) → Over8 x → Signed x false → Signed y false → Over8 (x ⊕ y)
unfolding Ieee.add sum Ieee.le Ieee.lt Ieee.eq
left_over nan y o g h = absurd g
left_over (inf true) y o g h = absurd (false≢true (sym g))
left_over (fin true m e) y o g h = absurd (false≢true (sym g))
left_over (inf false) nan o g h = absurd h
left_over (inf false) (inf true) o g h = absurd (false≢true (sym h))
left_over (inf false) (inf false) o g h = tt
left_over (inf false) (fin t n d) o g h = tt
left_over (fin false m e) nan o g h = absurd h
left_over (fin false m e) (inf true) o g h = absurd (false≢true (sym h))
left_over (fin false m e) (inf false) o g h = tt
left_over (fin false m e) (fin true n d) o g h = absurd (false≢true (sym h))
left_over (fin false m e) (fin false n d) o g h =
    let k : 1 * 8 * down e ≤ m * up e * 1 = or_cases (1 * 8 * down e) (m * up e * 1) o in
    fraction-8 (m * up e * down d + n * up d * down e) (down e * down d) (mul-pos (down_pos e) (down_pos d)) (wide (down e) (down d) (m * up e) (n * up d * down e) (omega arith))

right-over : (x y : Float) → Over8 y → Signed x false → Signed y false → Over8 (x ⊕ y)
unfolding Ieee.add sum Ieee.le Ieee.lt Ieee.eq
right-over nan y o g h = absurd g
right-over (inf true) y o g h = absurd (false≢true (sym g))
right-over (fin true m e) y o g h = absurd (false≢true (sym g))
right-over (inf false) nan o g h = absurd h
right-over (inf false) (inf true) o g h = absurd (false≢true (sym h))
right-over (inf false) (inf false) o g h = tt
right-over (inf false) (fin t n d) o g h = tt
right-over (fin false m e) nan o g h = absurd h
right-over (fin false m e) (inf true) o g h = absurd (false≢true (sym h))
right-over (fin false m e) (inf false) o g h = tt
right-over (fin false m e) (fin true n d) o g h = absurd (false≢true (sym h))
right-over (fin false m e) (fin false n d) o g h =
    let k : 1 * 8 * down d ≤ n * up d * 1 = or_cases (1 * 8 * down d) (n * up d * 1) o in
    let w = wide (down d) (down e) (n * up d) (m * up e * down d) (omega arith) in
    fraction-8 (m * up e * down d + n * up d * down e) (down e * down d) (mul-pos (down_pos e) (down_pos d)) (omega (arith, mul_comm (down d) (down e)))

not-both : (x : Float) → Over8 x → Within x 7 → ⊥
unfolding Ieee.le Ieee.lt Ieee.eq
not-both nan o h = h
not-both (inf s) o h = h
not-both (fin true m e) o h = let k : 1 * 8 * down e ≡ 0 = eqb→eq (1 * 8 * down e) 0 (and_r (eqb (1 * 8 * down e) (m * up e * 1)) _ o) in omega (arith, down_pos e)
not-both (fin false m e) o h =
    let k : 1 * 8 * down e ≤ m * up e * 1 = or_cases (1 * 8 * down e) (m * up e * 1) o in
    omega (arith, down_pos e)

-- ---- a length of 1 within 2^-40 is at most 2

size-of-1 : (x : Float) → T (fin false 1 (pos 0) ≤ᶠ x) → (size_of x ≤ᶠ two^- 40) ≡ true → ⊥
unfolding Ieee.le Ieee.lt Ieee.eq Ieee.neg of_bits
size-of-1 nan o g = o
size-of-1 (inf true) o g = o
size-of-1 (inf false) o g = false≢true g
size-of-1 (fin true m e) o g = let k : 1 * 1 * down e ≡ 0 = eqb→eq (1 * 1 * down e) 0 (and_r (eqb (1 * 1 * down e) (m * up e * 1)) _ o) in omega (arith, down_pos e)
size-of-1 (fin false m e) o g = go (ltb (m * up e * 1) (0 * up (pos 0) * down e)) refl g
  where
    go : (b : Bool) → ltb (m * up e * 1) (0 * up (pos 0) * down e) ≡ b → (cond b (Ieee.neg (fin false m e)) (fin false m e) ≤ᶠ two^- 40) ≡ true → ⊥
    go true p g = let k = ltb-true (m * up e * 1) (0 * up (pos 0) * down e) p in omega arith
    go false p g =
        let j : 1 * down e ≤ m * up e * 1 = or_cases (1 * 1 * down e) (m * up e * 1) o in
        let k : m * up e * 1099511627776 ≤ 1 * 1 * down e = or_cases (m * up e * 1099511627776) (1 * 1 * down e) (subst T (sym g) tt) in
        omega (arith, down_pos e)

less-1 : (x : Float) → NotBelow x → (size_of (x ⊖ f1) ≤ᶠ two^- 40) ≡ true → finite x ≡ true → Within x 2
unfolding Ieee.sub Ieee.neg Ieee.add sum of_bits
less-1 nan n g f = absurd (false≢true f)
less-1 (inf s) n g f = absurd (false≢true f)
less-1 (fin true (suc m) e) n g f = absurd n
less-1 (fin true zero e) n g f = omega arith
less-1 (fin false m e) n g f = go (ltb (2 * down e) (m * up e)) refl
  where
    go : (b : Bool) → ltb (2 * down e) (m * up e) ≡ b → m * up e ≤ 2 * down e
    go false p = ltb-false (2 * down e) (m * up e) p
    go true p =
        let h = ltb-true (2 * down e) (m * up e) p in
        let no_less : ltb (m * up e * 1) (1 * 1 * down e) ≡ false = le-ltb (m * up e * 1) (1 * 1 * down e) (omega arith) in
        let one = round-from-1 (m * up e * 1 - 1 * 1 * down e) (down e * 1) (omega (arith, down_pos e)) (omega arith) in
        absurd (size-of-1 (round binary64 false (m * up e * 1 - 1 * 1 * down e) (down e * 1)) one (rw no_less at g))

-- ---- the size of a root, and of what it is the root of

most-units : (M D a U : ℕ) → M ≤ a * D → M * U / D ≤ a * U
most-units M D a U h =
    div-le_of_le-mul D (le_trans (mul-le-mul_right U h) (le_of_eq (ap (λ (z : ℕ). z * U) (mul_comm a D) ∙ mul_assoc D a U)))

less-units : (M D a U : ℕ) → 0 < D → M * U / D < a * U → M < a * D
less-units M D a U p h =
    lt_of_mul-lt-mul_right U (lt_of_lt_of_le ((div-lt_iff_lt-mul p).0 h) (le_of_eq (mul_right_comm a U D)))

within-units : (x : Float) (a : ℕ) → Plus x → Within x a → units_of x ≤ a * 2 ^ 1074
within-units nan a p h = absurd p
within-units (inf s) a p h = absurd p
within-units (fin true m e) a p h = absurd p
within-units (fin false m e) a p h = most-units (m * up e) (down e) a (2 ^ 1074) h

units-within : (x : Float) (a : ℕ) → Plus x → units_of x < a * 2 ^ 1074 → Within x a
units-within nan a p h = absurd p
units-within (inf s) a p h = absurd p
units-within (fin true m e) a p h = absurd p
units-within (fin false m e) a p h = le_of_lt (less-units (m * up e) (down e) a (2 ^ 1074) (down_pos e) h)

-- from a root of at most 2: with 3 above it, 4·x < 5·5
from-root : (X R Y U : ℕ) → R ≤ 2 * U → Y ≡ 3 * U → 4 * (X * U) < (R + Y) * (R + Y) → X < 7 * U
from-root X R Y U r y h = go (ltb X (7 * U)) refl
  where
    go : (b : Bool) → ltb X (7 * U) ≡ b → X < 7 * U
    go true p = ltb-true X (7 * U) p
    go false p =
        let l : 7 * U * U ≤ X * U = mul-le-mul_right U (ltb-false X (7 * U) p) in
        let s : R + Y ≤ 5 * U = omega arith in
        let k : (R + Y) * (R + Y) ≤ 5 * U * (5 * U) = mul-le-mul s s in
        absurd (omega (arith, mul_assoc 7 U U, mul-mul-mul_comm 5 U 5 U))

-- to the root of at most 2^69: 2^35 is not below it
to-root : (X R Y U : ℕ) → X ≤ 590295810358705651712 * U → Y ≡ 34359738368 * U → (Y < R → (R + Y) * (R + Y) < 4 * (X * U)) → R ≤ 34359738368 * U
to-root X R Y U x y h = go (ltb Y R) refl
  where
    go : (b : Bool) → ltb Y R ≡ b → R ≤ 34359738368 * U
    go false p = let l = ltb-false Y R p in omega arith
    go true p =
        let l : Y < R = ltb-true Y R p in
        let q = h l in
        let s : 68719476736 * U ≤ R + Y = omega arith in
        let k : 68719476736 * U * (68719476736 * U) ≤ (R + Y) * (R + Y) = mul-le-mul s s in
        let m : X * U ≤ 590295810358705651712 * U * U = mul-le-mul_right U x in
        absurd (omega (arith, mul_assoc 590295810358705651712 U U, mul-mul-mul_comm 68719476736 U 68719476736 U))

abbrev three : Float
three = fin false 3 (pos 0)

abbrev big : Float
big = fin false 1 (pos 35)

three-plus : Plus three
unfolding fits
three-plus = tt

big-plus : Plus big
unfolding fits
big-plus = tt

pub root-of-most : (x : Float) → Plus x → Within (root_of x) 2 → Within x 7
root-of-most x p w =
    let n = nearest-is x p in
    let r : units_of (root_of x) ≤ 2 * 2 ^ 1074 = within-units (root_of x) 2 n.held w in
    units-within x 7 p (from-root (units_of x) (units_of (root_of x)) (units_of three) (2 ^ 1074) r refl (n.above three three-plus (lift (units_of (root_of x)) (2 ^ 1074) (lit≤ tt) r)))
  where
    lift : (R U : ℕ) → 0 < U → R ≤ 2 * U → R < 3 * U
    lift R U p h = omega arith

pub root-most : (x : Float) → Plus x → Within x 590295810358705651712 → Within (root_of x) 34359738369
root-most x p w =
    let n = nearest-is x p in
    let l = to-root (units_of x) (units_of (root_of x)) (units_of big) (2 ^ 1074) (within-units x 590295810358705651712 p w) refl (n.below big big-plus) in
    units-within (root_of x) 34359738369 n.held (lift (units_of (root_of x)) (2 ^ 1074) (lit≤ tt) l)
  where
    lift : (R U : ℕ) → 0 < U → R ≤ 34359738368 * U → R < 34359738369 * U
    lift R U p h = omega arith

-- ---- the components of a unit vector

minuend : (x : Float) → finite (x ⊖ f1) ≡ true → finite x ≡ true
unfolding Ieee.sub Ieee.neg Ieee.add of_bits
minuend nan g = g
minuend (inf s) g = g
minuend (fin s m e) g = refl

-- its root is finite, so is what is not below zero
radical : (x : Float) → Signed x false → T (fits binary64 x) → finite (root_of x) ≡ true → Plus x
unfolding root_of
radical nan g f h = absurd g
radical (inf true) g f h = absurd (false≢true (sym g))
radical (inf false) g f h = absurd (false≢true h)
radical (fin true m e) g f h = absurd (false≢true (sym g))
radical (fin false m e) g f h = f

three-most : (x d : Float) → finite x ≡ true → Within d 7 → (Over8 (x ⊗ x) → Over8 d) → Within x 3
three-most nan d g w f = absurd (false≢true g)
three-most (inf s) d g w f = absurd (false≢true g)
three-most (fin s m e) d g w f = go (ltb (3 * down e) (m * up e)) refl
  where
    go : (b : Bool) → ltb (3 * down e) (m * up e) ≡ b → m * up e ≤ 3 * down e
    go false p = ltb-false (3 * down e) (m * up e) p
    go true p = absurd (not-both d (f (square-over s m e (ltb-true (3 * down e) (m * up e) p))) w)

-- a vector's components are at most a in size
pub record Each (v : Vector) (a : ℕ) : Type 0 where
  pub x : Within v.x a
  pub y : Within v.y a
  pub z : Within v.z a

pub unit-components : (v : Vector) → Finite v → (size_of (length_of v ⊖ f1) ≤ᶠ two^- 40) ≡ true → Each v 3
unit-components v f g =
    let X = v.x ⊗ v.x in
    let Y = v.y ⊗ v.y in
    let Z = v.z ⊗ v.z in
    let sx : Signed X false = square-signed v.x f.x in
    let sy : Signed Y false = square-signed v.y f.y in
    let sz : Signed Z false = square-signed v.z f.z in
    let sxy = plus-signed X Y sx sy in
    let fl : finite (length_of v) ≡ true = minuend (length_of v) (limit g) in
    let l = less-1 (length_of v) (root-not-below (dot_of v v)) g fl in
    let d = root-of-most (dot_of v v) (radical (dot_of v v) (plus-signed (X ⊕ Y) Z sxy sz) (add-fits binary64 (X ⊕ Y) Z) fl) l in
    record {
      x = three-most v.x (dot_of v v) f.x d (λ o. left_over (X ⊕ Y) Z (left_over X Y o sx sy) sxy sz);
      y = three-most v.y (dot_of v v) f.y d (λ o. left_over (X ⊕ Y) Z (right-over X Y o sx sy) sxy sz);
      z = three-most v.z (dot_of v v) f.z d (λ o. right-over (X ⊕ Y) Z o sxy sz);
    }
  where
    limit : (size_of (length_of v ⊖ f1) ≤ᶠ two^- 40) ≡ true → finite (length_of v ⊖ f1) ≡ true
    limit h = size-at-most (length_of v ⊖ f1) (two^- 40) (unfold of_bits in refl) h

-- ---- the sight line and its points

pub scaled-each : (k : Float) (v : Vector) (a b : ℕ) → Held (a * b) → Within k a → Each v b → Each (scaled_of k v) (a * b)
scaled-each k v a b l h e = record {
  x = mul_at k v.x a b l h e.x;
  y = mul_at k v.y a b l h e.y;
  z = mul_at k v.z a b l h e.z;
}

pub sum-each : (v w : Vector) (a b : ℕ) → Held (a + b) → Each v a → Each w b → Each (sum_of v w) (a + b)
sum-each v w a b l e f = record {
  x = add_at v.x w.x a b l e.x f.x;
  y = add_at v.y w.y a b l e.y f.y;
  z = add_at v.z w.z a b l e.z f.z;
}

pub dot-within : (v w : Vector) (a b : ℕ) → Held (a * b) → Held (a * b + a * b) → Held (a * b + a * b + a * b) → Each v a → Each w b → Within (dot_of v w) (a * b + a * b + a * b)
dot-within v w a b l l2 l3 e f =
    add_at (v.x ⊗ w.x ⊕ v.y ⊗ w.y) (v.z ⊗ w.z) (a * b + a * b) (a * b) l3
    (add_at (v.x ⊗ w.x) (v.y ⊗ w.y) (a * b) (a * b) l2 (mul_at v.x w.x a b l e.x f.x) (mul_at v.y w.y a b l e.y f.y))
    (mul_at v.z w.z a b l e.z f.z)
