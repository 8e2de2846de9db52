-- Laws of text that stands in a buffer, once for every text. Assumes nothing.
use Prim.Native.Nat.{ℕ, ◌+◌, ◌-◌, ◌≤◌, ◌<◌}
use native.Mathlib.Nat.{add-zero}
use native.Mathlib.Numerals.{add-one}
use native.Mathlib.Omega.{arith}
use mathlib.Core.Path.{◌≡◌, refl, sym, ap, ◌∙◌}
use mathlib.Core.List.{List, [], ◌∷◌, ◌++◌, append_assoc}
use lib.ListN.{length, get_or, take, drop, set, length-append, length-drop, take-append-drop}
use lib.Seq.{length-take-le, take_all, take-suc, take_at, drop_at, drop-drop, drop-append-le, take-append-le, take-take, set_split}
use Rattle.text.specs.Text.{Stands}

module _ {d : List ℕ} {a : ℕ} {x e : List ℕ} {r : ℕ} (p : Stands d a x e r) where
  -- what stands before the place behind x
  head-length : length (take a d ++ x) ≡ r
  head-length =
      let h : a ≤ length d = omega (arith, p.next, p.within) in
      length-append (take a d) x ∙ ap (λ (n : ℕ). n + length x) (length-take-le a d h) ∙ sym p.next

  split : e ≡ (take a d ++ x) ++ drop r d
  split = p.whole ∙ sym (append_assoc (take a d) x (drop r d))

  pub before-place : take r e ≡ take a d ++ x
  before-place = ap (take r) split ∙ take_at (take a d ++ x) (drop r d) r head-length

  pub behind-place : drop r e ≡ drop r d
  behind-place = ap (drop r) split ∙ drop_at (take a d ++ x) (drop r d) r head-length

  pub same_size : length e ≡ length d
  same_size =
      ap length split ∙ length-append (take a d ++ x) (drop r d)
      ∙ omega (arith, head-length, length-drop r d, p.within)

-- one text behind another is one text
pub then : {d e f x y : List ℕ} {a r t : ℕ} → Stands d a x e r → Stands e r y f t → Stands d a (x ++ y) f t
then {d} {e} {f} {x} {y} {a} {r} {t} p q =
    let m : drop t e ≡ drop t d =
    ap (λ (n : ℕ). drop n e) q.next ∙ sym (drop-drop (length y) r e) ∙ ap (drop (length y)) (behind-place p)
    ∙ drop-drop (length y) r d ∙ ap (λ (n : ℕ). drop n d) (sym q.next) in
    record {
      next = omega (arith, p.next, q.next, length-append x y);
      within = omega (arith, q.within, same_size p);
      whole =
          q.whole ∙ ap (λ (l : List ℕ). l ++ (y ++ drop t e)) (before-place p)
          ∙ ap (λ (l : List ℕ). (take a d ++ x) ++ (y ++ l)) m
          ∙ simp append_assoc;
    }

-- nothing
pub none : (d : List ℕ) (a : ℕ) → a ≤ length d → Stands d a [] d a
none d a h = record { next = sym (add-zero a); within = h; whole = sym (take-append-drop a d) }

-- one byte
pub one : (d : List ℕ) (a b : ℕ) → a < length d → Stands d a (b ∷ []) (set d a b) (a + 1)
one d a b h = record { next = refl; within = omega arith; whole = set_split d a b h ∙ rw (← add-one) refl }

-- a text at the front
pub at_front : {d x e : List ℕ} {r : ℕ} → Stands d 0 x e r → (r ≡ length x) × (e ≡ x ++ drop (length x) d)
at_front {d} {x} {e} {r} p =
    let n : r ≡ length x = omega (arith, p.next) in
    (n, p.whole ∙ ap (λ (k : ℕ). x ++ drop k d) n)

-- a text that is copied grows by a byte, and is whole at its end
pub grow : {d e : List ℕ} (x : List ℕ) {a : ℕ} (i : ℕ) → Stands d a (take i x) e (a + i) → i < length x → a + i < length e
    → Stands d a (take (i + 1) x) (set e (a + i) (get_or x i 0)) (a + (i + 1))
grow {d} {e} x {a} i p h l =
    let t : take (i + 1) x ≡ take i x ++ (get_or x i 0 ∷ []) = rw add-one (take-suc x i 0 h) in
    let n : a + (i + 1) ≡ a + i + 1 = omega arith in
    rw (t, n) (then p (one e (a + i) (get_or x i 0) l))

pub grown : {d e : List ℕ} (x : List ℕ) {a : ℕ} (i : ℕ) → Stands d a (take i x) e (a + i) → length x ≤ i → Stands d a x e (a + i)
grown x i p h = rw (take_all i x h) at p

-- What a callee that was lent the part `&mut d[o..o + k]` put at its front is put into the whole at o. For `&mut d[o..]` k is what is left.
pub lent : {d x f : List ℕ} {r : ℕ} (o k : ℕ) → o + k ≤ length d → Stands (take k (drop o d)) 0 x f r
    → Stands d o x (take o d ++ (f ++ drop k (drop o d))) (o + r)
lent {d} {x} {f} {r} o k h p =
    let l = drop o d in
    let g : k ≤ length l = simp length-drop (omega arith) in
    let w : r ≤ k = rw (length-take-le k l g) at p.within in
    let b : drop r (take k l) ++ drop k l ≡ drop (o + r) d =
    sym (drop-append-le r (take k l) (drop k l) p.within) ∙ ap (drop r) (take-append-drop k l) ∙ drop-drop r o d in
    record {
      next = omega (arith, p.next);
      within = omega arith;
      whole =
          ap (λ (z : List ℕ). take o d ++ (z ++ drop k l)) p.whole
          ∙ ap (λ (z : List ℕ). take o d ++ z) (append_assoc x (drop r (take k l)) (drop k l) ∙ ap (λ (z : List ℕ). x ++ z) b);
    }

-- a text that is filled in before one that stands already
pub earlier : {d e f x y : List ℕ} {a m r : ℕ} → Stands d m y e r → Stands e a x f m → Stands d a (x ++ y) f r
earlier {d} {e} {f} {x} {y} {a} {m} {r} p q =
    let g : m ≤ length d = omega (arith, p.next, p.within) in
    let t : take a e ≡ take a d =
    ap (take a) p.whole
    ∙ take-append-le a (take m d) (y ++ drop r d) (omega (arith, length-take-le m d g, q.next))
    ∙ take-take a m d (omega (arith, q.next)) in
    let u : drop m e ≡ y ++ drop r d = ap (drop m) p.whole ∙ drop_at (take m d) (y ++ drop r d) m (length-take-le m d g) in
    record {
      next = omega (arith, p.next, q.next, length-append x y);
      within = p.within;
      whole =
          q.whole ∙ ap (λ (z : List ℕ). z ++ (x ++ drop m e)) t ∙ ap (λ (z : List ℕ). take a d ++ (x ++ z)) u
          ∙ ap (λ (z : List ℕ). take a d ++ z) (sym (append_assoc x y (drop r d)));
    }

-- the last byte put first
pub last-first : {d f x : List ℕ} {a : ℕ} (i b : ℕ) → 0 < i → a + i ≤ length d → Stands (set d (a + (i - 1)) b) a x f (a + (i - 1))
    → Stands d a (x ++ (b ∷ [])) f (a + i)
last-first {d} {a = a} i b h l q =
    let n : a + i ≡ a + (i - 1) + 1 = omega arith in
    rw n (earlier (one d (a + (i - 1)) b (omega arith)) q)
