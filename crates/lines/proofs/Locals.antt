-- The local time: its day and cs from those of the time, and how large they are. Assumes nothing.
use Prim.Native.Nat.{ℕ, zero, suc, ◌+◌, ◌-◌, ◌*◌, ◌/◌, ◌%◌, ◌^◌, ◌≤◌, ◌<◌, zero-le}
use native.Mathlib.Omega.{arith}
use mathlib.Core.Path.{◌≡◌, sym, ap, ◌∙◌}
use mathlib.Core.Bool.{Bool, true, false, cond}
use lib.IntN.{ℤ, pos, negsuc, neg_ℤ, sub_ℕ, suc_ℤ, pred_ℤ, ◌+ℤ◌, ◌*ℤ◌, +ℤ_assoc, +ℤ_comm, +ℤ_idl, zero-*ℤ, suc_ℤ-+ℤ, pred_ℤ-+ℤ, suc_ℤ-*ℤ, pred_ℤ-*ℤ}
use lib.Signed.{mag}
use lib.Dec.{ltb}
use mir.Syntax.{w16, w64}
use mir.Val.{SFits}
use Rattle.lines.specs.Days.{local_of, day_of, cs_of}
use Rattle.lines.proofs.DayLaws.{up, together, cs-below}

-- a product of a sum
swap : (x y z : ℤ) → x +ℤ y +ℤ z ≡ x +ℤ z +ℤ y
swap x y z = +ℤ_assoc x y z ∙ ap (λ (a : ℤ). x +ℤ a) (+ℤ_comm y z) ∙ sym (+ℤ_assoc x z y)

one_more : (a b k : ℤ) → (a +ℤ b) *ℤ k ≡ a *ℤ k +ℤ b *ℤ k → (suc_ℤ a +ℤ b) *ℤ k ≡ suc_ℤ a *ℤ k +ℤ b *ℤ k
one_more a b k e =
    ap (λ (z : ℤ). z *ℤ k) (suc_ℤ-+ℤ a b) ∙ suc_ℤ-*ℤ (a +ℤ b) k ∙ ap (λ (z : ℤ). z +ℤ k) e ∙ swap (a *ℤ k) (b *ℤ k) k
    ∙ ap (λ (z : ℤ). z +ℤ b *ℤ k) (sym (suc_ℤ-*ℤ a k))

one_less : (a b k : ℤ) → (a +ℤ b) *ℤ k ≡ a *ℤ k +ℤ b *ℤ k → (pred_ℤ a +ℤ b) *ℤ k ≡ pred_ℤ a *ℤ k +ℤ b *ℤ k
one_less a b k e =
    ap (λ (z : ℤ). z *ℤ k) (pred_ℤ-+ℤ a b) ∙ pred_ℤ-*ℤ (a +ℤ b) k ∙ ap (λ (z : ℤ). z +ℤ neg_ℤ k) e ∙ swap (a *ℤ k) (b *ℤ k) (neg_ℤ k)
    ∙ ap (λ (z : ℤ). z +ℤ b *ℤ k) (sym (pred_ℤ-*ℤ a k))

above_zero : (n : ℕ) (b k : ℤ) → (pos n +ℤ b) *ℤ k ≡ pos n *ℤ k +ℤ b *ℤ k
above_zero zero b k = ap (λ (z : ℤ). z *ℤ k) (+ℤ_idl b) ∙ sym (ap (λ (z : ℤ). z +ℤ b *ℤ k) (zero-*ℤ k) ∙ +ℤ_idl (b *ℤ k))
above_zero (suc n) b k = one_more (pos n) b k (above_zero n b k)

below-zero : (n : ℕ) (b k : ℤ) → (negsuc n +ℤ b) *ℤ k ≡ negsuc n *ℤ k +ℤ b *ℤ k
below-zero zero b k = one_less (pos zero) b k (above_zero zero b k)
below-zero (suc n) b k = one_less (negsuc n) b k (below-zero n b k)

distrib : (a b k : ℤ) → (a +ℤ b) *ℤ k ≡ a *ℤ k +ℤ b *ℤ k
distrib (pos n) b k = above_zero n b k
distrib (negsuc n) b k = below-zero n b k

-- the day and the cs that make a time are its own
only : (d : ℤ) (c : ℕ) → c < 8640000
    → (day_of (d *ℤ pos 8640000 +ℤ pos c) ≡ d) × (cs_of (d *ℤ pos 8640000 +ℤ pos c) ≡ c)
only (pos n) c h =
    let q : (n * 8640000 + c) / 8640000 ≡ n = omega arith in
    let r : (n * 8640000 + c) % 8640000 ≡ c = omega arith in
    (ap pos q, r)
only (negsuc n) c h =
    let m = n * 8640000 + (8639999 - c) in
    let e : suc n * 8640000 ≡ suc (n * 8640000 + 8639999) = omega arith in
    let t : negsuc n *ℤ pos 8640000 +ℤ pos c ≡ negsuc m =
    ap (λ (k : ℕ). neg_ℤ (pos k) +ℤ pos c) e ∙ up (n * 8640000 + 8639999) c m (omega arith) in
    let q : m / 8640000 ≡ n = omega arith in
    let r : 8639999 - m % 8640000 ≡ c = omega arith in
    (ap day_of t ∙ ap negsuc q, ap cs_of t ∙ r)

-- a shift of the time is one of its cs, with the days that this makes
pub shift : (t x : ℤ) → (day_of (t +ℤ x) ≡ day_of t +ℤ day_of (pos (cs_of t) +ℤ x)) × (cs_of (t +ℤ x) ≡ cs_of (pos (cs_of t) +ℤ x))
shift t x =
    let y = pos (cs_of t) +ℤ x in
    let d = day_of t *ℤ pos 8640000 in
    let p : t +ℤ x ≡ (day_of t +ℤ day_of y) *ℤ pos 8640000 +ℤ pos (cs_of y) =
    ap (λ (z : ℤ). z +ℤ x) (sym (together t)) ∙ +ℤ_assoc d (pos (cs_of t)) x ∙ ap (λ (z : ℤ). d +ℤ z) (sym (together y))
    ∙ sym (+ℤ_assoc d (day_of y *ℤ pos 8640000) (pos (cs_of y)))
    ∙ ap (λ (z : ℤ). z +ℤ pos (cs_of y)) (sym (distrib (day_of t) (day_of y) (pos 8640000))) in
    let o = only (day_of t +ℤ day_of y) (cs_of y) (cs-below y) in
    (ap day_of p ∙ o.0, ap cs_of p ∙ o.1)

-- day and cs of the local time put together are the shifted time
pub local-together : (t o : ℤ) → day_of (local_of t o) *ℤ pos 8640000 +ℤ pos (cs_of (local_of t o)) ≡ t +ℤ pos 6000 *ℤ o
local-together t o = together (local_of t o)

-- how large they are
mag-cond : (b : Bool) (m n l : ℕ) → m < l → n < l → mag (cond b (negsuc m) (pos n)) < l
mag-cond true m n l h k = h
mag-cond false m n l h k = k

mag-sub : (a b l m : ℕ) → a < l → b < m → mag (sub_ℕ a (suc b)) < l + m
mag-sub a b l m h k = mag-cond (ltb a (suc b)) (suc b - suc a) (a - suc b) (l + m) (omega arith) (omega arith)

mag-plus : (a b : ℤ) (l m : ℕ) → mag a < l → mag b < m → mag (a +ℤ b) < l + m
mag-plus (pos a) (pos b) l m h k = omega arith
mag-plus (pos a) (negsuc b) l m h k = mag-sub a b l m h k
mag-plus (negsuc a) (pos b) l m h k = let e = mag-sub b a m l k h in omega (arith, e)
mag-plus (negsuc a) (negsuc b) l m h k = omega arith

mag-neg : (m : ℕ) → mag (neg_ℤ (pos m)) ≤ m
mag-neg zero = zero-le
mag-neg (suc m) = omega arith

mag-minutes : (z : ℤ) → SFits w16 z → mag (pos 6000 *ℤ z) < 2 ^ 28
mag-minutes (pos n) h = omega (arith, h.sfits)
mag-minutes (negsuc n) h = let e = mag-neg (6000 * suc n) in omega (arith, e, h.sfits)

mag-day : (t : ℤ) (l : ℕ) → mag t < l * 8640000 → mag (day_of t) < l
mag-day (pos n) l h = omega arith
mag-day (negsuc n) l h = omega arith

pub day-fits : (t : ℤ) → mag t < 2 ^ 63 + 2 ^ 28 → SFits w64 (day_of t)
day-fits t h = let d = mag-day t (2 ^ 41) (omega arith) in record { sfits = omega (arith, d) }

module _ (t o : ℤ) (time : SFits w64 t) (offset : SFits w16 o) where
  pub minutes-fit : SFits w64 (pos 6000 *ℤ o)
  minutes-fit = record { sfits = omega (arith, mag-minutes o offset) }

  pub shifted-small : mag (pos (cs_of t) +ℤ pos 6000 *ℤ o) < 2 ^ 29
  shifted-small =
      let p = mag-plus (pos (cs_of t)) (pos 6000 *ℤ o) (2 ^ 28) (2 ^ 28) (omega (arith, cs-below t)) (mag-minutes o offset) in
      omega (arith, p)

  pub local-small : mag (local_of t o) < 2 ^ 63 + 2 ^ 28
  local-small = mag-plus t (pos 6000 *ℤ o) (2 ^ 63) (2 ^ 28) time.sfits (mag-minutes o offset)
