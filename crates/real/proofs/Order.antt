-- What one comparison of two numbers says of another, and what the sign does to it. Assumes nothing.
use Rattle.std.proofs.Common.{◌≡◌, ℕ, zero, suc, ◌+◌, ◌*◌, ◌<◌, ◌≤◌, Bool, true, false, cond, not, ◌&&◌, ◌||◌, eqb, ltb, sym, refl, ap, ◌∙◌, true≢false, arith, ltb-false, ltb-true, le-ltb, lt-ltb, eq-eqb, ne_eqb, eqb-true}
use borrow.Author.Tests.{eqb-false}
use lib.Ieee.{Float, nan, inf, fin, up, down, below, level, lt, le, eq, neg}
use Rattle.facts.proofs.Truth.{or-0, or-1, both}
use Rattle.real.specs.F64.{◌≤ᶠ◌, ◌<ᶠ◌, f0, finite, size_of}

-- ---- of two finite numbers, what is not at or below is above, and what is not above is at or below

unlevel : (s : Bool) (a : ℕ) (t : Bool) (b : ℕ) → (below s a t b || level s a t b) ≡ false → below t b s a ≡ true
unlevel false a false b h = lt-ltb b a (apart a b (ltb-false a b (or-0 (ltb a b) _ h)) (λ e. true≢false (sym (both (eqb a b) true (eq-eqb a b e) refl) ∙ or-1 (ltb a b) _ h)))
  where
    apart : (a b : ℕ) → b ≤ a → (a ≡ b → ⊥) → b < a
    apart a b h k = omega arith
unlevel false a true b h = lt-ltb 0 (b + a) (some a b (λ e k. true≢false (sym (both (eqb a b) _ (eq-eqb a b e) (eq-eqb a 0 k)) ∙ h)))
  where
    some : (a b : ℕ) → (a ≡ b → a ≡ 0 → ⊥) → 0 < b + a
    some zero zero k = absurd (k refl refl)
    some zero (suc b) k = omega arith
    some (suc a) b k = omega arith
unlevel true a false b h =
    absurd (true≢false (sym (both (eqb a b) _ (eq-eqb a b (zeros a b z).0) (eq-eqb a 0 (zeros a b z).1)) ∙ or-1 (ltb 0 (a + b)) _ h))
  where
    z : a + b ≤ 0
    z = ltb-false 0 (a + b) (or-0 (ltb 0 (a + b)) _ h)

    zeros : (a b : ℕ) → a + b ≤ 0 → (a ≡ b) × (a ≡ 0)
    zeros a b h = (omega arith, omega arith)
unlevel true a true b h = lt-ltb a b (apart a b (ltb-false b a (or-0 (ltb b a) _ h)) (λ e. true≢false (sym (both (eqb a b) true (eq-eqb a b e) refl) ∙ or-1 (ltb b a) _ h)))
  where
    apart : (a b : ℕ) → a ≤ b → (a ≡ b → ⊥) → a < b
    apart a b h k = omega arith

pub above-it : (x y : Float) → finite x ≡ true → finite y ≡ true → le x y ≡ false → lt y x ≡ true
unfolding le lt eq
above-it (fin s m e) (fin t n d) h k l = unlevel s (m * up e * down d) t (n * up d * down e) l
above-it (fin s m e) (inf t) h k l = absurd (true≢false (sym k))
above-it (fin s m e) nan h k l = absurd (true≢false (sym k))
above-it (inf s) y h k l = absurd (true≢false (sym h))
above-it nan y h k l = absurd (true≢false (sym h))

pub not-above : (x y : Float) → finite x ≡ true → finite y ≡ true → (y <ᶠ x) ≡ false → (x ≤ᶠ y) ≡ true
not-above x y g h k = go (x ≤ᶠ y) refl
  where
    go : (b : Bool) → (x ≤ᶠ y) ≡ b → b ≡ true
    go true e = refl
    go false e = absurd (true≢false (sym (above-it x y g h e) ∙ k))

-- ---- under excludes at least

turn : (a b : ℕ) → eqb a b ≡ eqb b a
turn a b = go (eqb a b) refl
  where
    go : (t : Bool) → eqb a b ≡ t → t ≡ eqb b a
    go true e = sym (eq-eqb b a (sym (eqb-true a b e)))
    go false e = sym (ne_eqb b a (λ h. eqb-false a b e (sym h)))

apart : (a b : ℕ) → a < b → (ltb b a ≡ false) × (eqb b a ≡ false)
apart a b h = (le-ltb b a (weak a b h), ne_eqb b a (λ e. clash a b h e))
  where
    weak : (a b : ℕ) → a < b → a ≤ b
    weak a b h = omega arith

    clash : (a b : ℕ) → a < b → b ≡ a → ⊥
    clash a b h e = omega arith

not-both-zero : (a b : ℕ) → 0 < a + b → (eqb b a && (false || eqb b 0)) ≡ false
not-both-zero a b h = go (eqb b a) (eqb b 0) refl refl
  where
    clash : (a b : ℕ) → 0 < a + b → b ≡ a → b ≡ 0 → ⊥
    clash a b h p q = omega arith

    go : (p q : Bool) → eqb b a ≡ p → eqb b 0 ≡ q → (p && (false || q)) ≡ false
    go true true p q = absurd (clash a b h (eqb-true b a p) (eqb-true b 0 q))
    go true false p q = refl
    go false q p r = refl

none : (p q : Bool) → (p ≡ false) × (q ≡ false) → (p || (q && true)) ≡ false
none true q h = absurd (true≢false h.0)
none false true h = absurd (true≢false h.1)
none false false h = refl

below-not : (s : Bool) (a : ℕ) (t : Bool) (b : ℕ) → below s a t b ≡ true → (below t b s a || level t b s a) ≡ false
below-not false a false b h = none (ltb b a) (eqb b a) (apart a b (ltb-true a b h))
below-not false a true b h = absurd (true≢false (sym h))
below-not true a false b h = not-both-zero a b (ltb-true 0 (a + b) h)
below-not true a true b h = none (ltb a b) (eqb b a) ((apart b a (ltb-true b a h)).0, turn b a ∙ (apart b a (ltb-true b a h)).1)

pub under-not : (x y : Float) → (x <ᶠ y) ≡ true → (y ≤ᶠ x) ≡ false
unfolding le lt eq
under-not nan y h = absurd (true≢false (sym h))
under-not (inf s) nan h = absurd (true≢false (sym h))
under-not (inf true) (inf false) h = refl
under-not (inf true) (inf true) h = absurd (true≢false (sym h))
under-not (inf false) (inf t) h = absurd (true≢false (sym h))
under-not (inf true) (fin t n d) h = refl
under-not (inf false) (fin t n d) h = absurd (true≢false (sym h))
under-not (fin s m e) nan h = absurd (true≢false (sym h))
under-not (fin s m e) (inf true) h = absurd (true≢false (sym h))
under-not (fin s m e) (inf false) h = refl
under-not (fin s m e) (fin t n d) h = below-not s (m * up e * down d) t (n * up d * down e) h

pub under-not-over : (x y : Float) → (x <ᶠ y) ≡ true → (y <ᶠ x) ≡ false
unfolding le
under-not-over x y h = or-0 (y <ᶠ x) _ (under-not x y h)

pub at-most-not : (x y : Float) → (x ≤ᶠ y) ≡ true → (y <ᶠ x) ≡ false
at-most-not x y h = go (y <ᶠ x) refl
  where
    go : (b : Bool) → (y <ᶠ x) ≡ b → b ≡ false
    go true e = absurd (true≢false (sym h ∙ under-not y x e))
    go false e = refl

-- ---- the sign turned

zeros : (a b : ℕ) → (eqb a b && (false || eqb a 0)) ≡ (eqb b a && (false || eqb b 0))
zeros a b = go (eqb a b) refl
  where
    go : (t : Bool) → eqb a b ≡ t → (t && (false || eqb a 0)) ≡ (eqb b a && (false || eqb b 0))
    go true e = ap (λ (n : ℕ). eqb n 0) (eqb-true a b e) ∙ sym (ap (λ (u : Bool). u && (false || eqb b 0)) (sym (turn a b) ∙ e))
    go false e = sym (ap (λ (u : Bool). u && (false || eqb b 0)) (sym (turn a b) ∙ e))

mirrored : (s : Bool) (a : ℕ) (t : Bool) (b : ℕ) → (below (not s) a t b || level (not s) a t b) ≡ (below (not t) b s a || level (not t) b s a)
mirrored false a false b = ap (λ (n : ℕ). ltb 0 n || (eqb a b && (false || eqb a 0))) (comm a b) ∙ ap (λ (u : Bool). ltb 0 (b + a) || u) (zeros a b)
  where
    comm : (a b : ℕ) → a + b ≡ b + a
    comm a b = omega arith
mirrored false a true b = ap (λ (u : Bool). ltb b a || (u && true)) (turn a b)
mirrored true a false b = ap (λ (u : Bool). ltb a b || (u && true)) (turn a b)
mirrored true a true b = zeros a b

pub mirror : (x y : Float) → (neg x ≤ᶠ y) ≡ (neg y ≤ᶠ x)
unfolding le lt eq neg
mirror nan nan = refl
mirror nan (inf t) = refl
mirror nan (fin t n d) = refl
mirror (inf s) nan = refl
mirror (inf false) (inf false) = refl
mirror (inf false) (inf true) = refl
mirror (inf true) (inf false) = refl
mirror (inf true) (inf true) = refl
mirror (inf s) (fin t n d) = refl
mirror (fin s m e) nan = refl
mirror (fin s m e) (inf t) = refl
mirror (fin s m e) (fin t n d) = mirrored s (m * up e * down d) t (n * up d * down e)

pub neg-neg : (x : Float) → neg (neg x) ≡ x
unfolding neg
neg-neg nan = refl
neg-neg (inf false) = refl
neg-neg (inf true) = refl
neg-neg (fin false m e) = refl
neg-neg (fin true m e) = refl

pub neg-finite : (t : Float) → finite t ≡ true → finite (neg t) ≡ true
unfolding neg
neg-finite nan h = h
neg-finite (inf s) h = h
neg-finite (fin s m e) h = refl

-- a number over 0 is its own size
pub own-size : (x : Float) → (f0 <ᶠ x) ≡ true → size_of x ≡ x
own-size x h = ap (λ (b : Bool). cond b (neg x) x) (under-not-over f0 x h)
