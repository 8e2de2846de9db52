-- Of two points the first has the larger k: x − r is at most x + r, rounded, for an r that is not below zero. Assumes nothing.
use Rattle.std.proofs.Common.{◌≡◌, ℕ, zero, suc, ◌+◌, ◌-◌, ◌*◌, ◌^◌, ◌<◌, ◌≤◌, Bool, true, false, cond, ◌&&◌, ◌||◌, T, eqb, ltb, sym, refl, ap, ◌∙◌, subst, mul-le-mul_right, mul-pos, arith, lit≤, ltb-false, ltb-true, eq-eqb}
use mathlib.Core.Bool.{beq, false≢true}
use lib.Ieee as Ieee
use lib.Ieee.{Float, nan, inf, fin, Format, binary64, up, down, odd, units, round, sum, neg}
use lib.Ieee.Order.{round_mono}
use lib.Ieee.Fits.{down_pos, round_is}
use Rattle.real.specs.F64.{◌⊕◌, ◌⊖◌, ◌≤ᶠ◌, finite}
use Rattle.real.proofs.Bounds.{Within, Signed, round-signed, round-below, or_cases}
use Rattle.root.proofs.Sign.{NotBelow}

-- ---- a rounded number below zero is the negative of one above

odd-turned : (d q k l : ℕ) → odd d true q k l ≡ neg (odd d false q k l)
unfolding odd neg
odd-turned d zero k l = refl
odd-turned d (suc q) k l = refl

units-turned : (f : Format) (q k : ℕ) → units f true q k ≡ neg (units f false q k)
unfolding units neg
units-turned f q k = go (ltb (q * 2 ^ k) (2 ^ (Ieee.low f + suc (Ieee.emax f))))
  where
    go : (b : Bool) → cond b (odd (suc (Ieee.prec f)) true q k (Ieee.low f)) (inf true) ≡ neg (cond b (odd (suc (Ieee.prec f)) false q k (Ieee.low f)) (inf false))
    go true = odd-turned (suc (Ieee.prec f)) q k (Ieee.low f)
    go false = refl

round-turned : (f : Format) (n d : ℕ) → round f true n d ≡ neg (round f false n d)
round-turned f n d = round_is f true n d ∙ units-turned f _ _ ∙ ap neg (sym (round_is f false n d))

-- ---- order

turned-at-most : (a b : ℕ) → a ≤ b → T (ltb a b || eqb b a && true)
turned-at-most a b h = go (ltb a b) refl
  where
    go : (c : Bool) → ltb a b ≡ c → T (c || eqb b a && true)
    go true p = tt
    go false p =
        let k = ltb-false a b p in
        let e : b ≡ a = omega arith in
        rw (eq-eqb b a e) tt

turned_le : (x y : Float) → Signed x false → Signed y false → T (x ≤ᶠ y) → T (neg y ≤ᶠ neg x)
unfolding Ieee.le Ieee.lt Ieee.eq neg
turned_le nan y g h l = absurd g
turned_le (inf true) y g h l = absurd (false≢true (sym g))
turned_le (fin true m e) y g h l = absurd (false≢true (sym g))
turned_le (inf false) nan g h l = absurd h
turned_le (inf false) (inf true) g h l = absurd (false≢true (sym h))
turned_le (inf false) (inf false) g h l = tt
turned_le (inf false) (fin t n d) g h l = absurd l
turned_le (fin false m e) nan g h l = absurd h
turned_le (fin false m e) (inf true) g h l = absurd (false≢true (sym h))
turned_le (fin false m e) (inf false) g h l = tt
turned_le (fin false m e) (fin true n d) g h l = absurd (false≢true (sym h))
turned_le (fin false m e) (fin false n d) g h l = turned-at-most (m * up e * down d) (n * up d * down e) (or_cases (m * up e * down d) (n * up d * down e) l)

either-sign : (a b : ℕ) → T (ltb 0 (a + b) || eqb a b && (false || eqb a 0))
either-sign a b = go (ltb 0 (a + b)) refl
  where
    go : (c : Bool) → ltb 0 (a + b) ≡ c → T (c || eqb a b && (false || eqb a 0))
    go true p = tt
    go false p =
        let k = ltb-false 0 (a + b) p in
        let i : a ≡ b = omega arith in
        let j : a ≡ 0 = omega arith in
        rw (eq-eqb a b i, eq-eqb a 0 j) tt

minus_plus : (x y : Float) → Signed x true → Signed y false → T (x ≤ᶠ y)
unfolding Ieee.le Ieee.lt Ieee.eq
minus_plus nan y g h = absurd g
minus_plus (inf false) y g h = absurd (false≢true g)
minus_plus (fin false m e) y g h = absurd (false≢true g)
minus_plus (inf true) nan g h = absurd h
minus_plus (inf true) (inf true) g h = absurd (false≢true (sym h))
minus_plus (inf true) (inf false) g h = tt
minus_plus (inf true) (fin t n d) g h = tt
minus_plus (fin true m e) nan g h = absurd h
minus_plus (fin true m e) (inf true) g h = absurd (false≢true (sym h))
minus_plus (fin true m e) (inf false) g h = tt
minus_plus (fin true m e) (fin true n d) g h = absurd (false≢true (sym h))
minus_plus (fin true m e) (fin false n d) g h = either-sign (m * up e * down d) (n * up d * down e)

-- two zeros, whatever their signs
level-zero : (s t : Bool) (a b : ℕ) → a ≡ 0 → b ≡ 0 → T (Ieee.below s a t b || Ieee.level s a t b)
level-zero s t a b p q =
    let r : a ≡ b = p ∙ sym q in
    go (Ieee.below s a t b) (beq s t) (rw (eq-eqb a b r, eq-eqb a 0 p))
  where
    go : (u v : Bool) → (eqb a b && (v || eqb a 0)) ≡ (v || true) → T (u || eqb a b && (v || eqb a 0))
    go true v e = tt
    go false true e = subst T (sym e) tt
    go false false e = subst T (sym e) tt

zeros : (x y : Float) → Within x 0 → Within y 0 → T (x ≤ᶠ y)
unfolding Ieee.le Ieee.lt Ieee.eq
zeros nan y g h = absurd g
zeros (inf s) y g h = absurd g
zeros (fin s m e) nan g h = absurd h
zeros (fin s m e) (inf t) g h = absurd h
zeros (fin s m e) (fin t n d) g h =
    let i : m * up e ≤ 0 = omega arith in
    let j : n * up d ≤ 0 = omega arith in
    let p : m * up e * down d ≤ 0 * down d = mul-le-mul_right (down d) i in
    let q : n * up d * down e ≤ 0 * down e = mul-le-mul_right (down e) j in
    level-zero s t (m * up e * down d) (n * up d * down e) (omega arith) (omega arith)

-- fractions over one denominator, by their signs
module _ (C : ℕ) (c : 0 < C) where
  abbrev R : Bool → ℕ → Float
  R s n = round binary64 s n C

  above : (a b : ℕ) → a ≤ b → T (R false a ≤ᶠ R false b)
  above a b h = round_mono binary64 a C b C c c (mul-le-mul_right C h)

  beneath : (a b : ℕ) → a ≤ b → T (R true b ≤ᶠ R true a)
  beneath a b h =
      subst (λ (x : Float). T (x ≤ᶠ R true a)) (sym (round-turned binary64 b C))
      (subst (λ (y : Float). T (neg (R false b) ≤ᶠ y)) (sym (round-turned binary64 a C))
      (turned_le (R false a) (R false b) (round-signed binary64 false a C) (round-signed binary64 false b C) (above a b h)))

  across : (a b : ℕ) → T (R true a ≤ᶠ R false b)
  across a b = minus_plus (R true a) (R false b) (round-signed binary64 true a C) (round-signed binary64 false b C)

  nothing : (s t : Bool) (a b : ℕ) → a ≡ 0 → b ≡ 0 → T (R s a ≤ᶠ R t b)
  nothing s t a b p q = zeros (R s a) (R t b) (round-below s a C 0 (lit≤ tt) c (omega arith)) (round-below t b C 0 (lit≤ tt) c (omega arith))

  -- ±A − B and ±A + B
  plus-size : (s : Bool) (A B : ℕ) → T (sum binary64 s A true B C ≤ᶠ sum binary64 s A false B C)
  unfolding sum
  plus-size false A B = go (ltb A B)
    where
      go : (b : Bool) → T (cond b (R true (B - A)) (R false (A - B)) ≤ᶠ R false (A + B))
      go true = across (B - A) (A + B)
      go false = above (A - B) (A + B) (omega arith)
  plus-size true A B = go (ltb A B) (ltb B A)
    where
      go : (b q : Bool) → T (R true (A + B) ≤ᶠ cond b (R false (B - A)) (R q (A - B)))
      go true q = across (A + B) (B - A)
      go false true = beneath (A - B) (A + B) (omega arith)
      go false false = across (A + B) (A - B)

  -- and for a B of -0
  minus-zero : (s : Bool) (A B : ℕ) → B ≡ 0 → T (sum binary64 s A false B C ≤ᶠ sum binary64 s A true B C)
  unfolding sum
  minus-zero false A B z = go (ltb A B) refl
    where
      go : (b : Bool) → ltb A B ≡ b → T (R false (A + B) ≤ᶠ cond b (R true (B - A)) (R false (A - B)))
      go true p = let k = ltb-true A B p in absurd (omega arith)
      go false p = above (A + B) (A - B) (omega arith)
  minus-zero true A B z = go (ltb A B) (ltb B A) refl refl
    where
      go : (b q : Bool) → ltb A B ≡ b → ltb B A ≡ q → T (cond b (R false (B - A)) (R q (A - B)) ≤ᶠ R true (A + B))
      go true q p r = let k = ltb-true A B p in absurd (omega arith)
      go false true p r = beneath (A + B) (A - B) (omega arith)
      go false false p r = let k = ltb-false B A r in nothing false true (A - B) (A + B) (omega arith) (omega arith)

pub larger-first : (x r : Float) → finite x ≡ true → finite r ≡ true → NotBelow r → T (x ⊖ r ≤ᶠ x ⊕ r)
unfolding Ieee.sub Ieee.add neg
larger-first nan r f g n = absurd (false≢true f)
larger-first (inf s) r f g n = absurd (false≢true f)
larger-first (fin s m e) nan f g n = absurd (false≢true g)
larger-first (fin s m e) (inf t) f g n = absurd (false≢true g)
larger-first (fin s m e) (fin false k d) f g n = plus-size (down e * down d) (mul-pos (down_pos e) (down_pos d)) s (m * up e * down d) (k * up d * down e)
larger-first (fin s m e) (fin true zero d) f g n = minus-zero (down e * down d) (mul-pos (down_pos e) (down_pos d)) s (m * up e * down d) (0 * up d * down e) (omega arith)
larger-first (fin s m e) (fin true (suc k) d) f g n = absurd n
