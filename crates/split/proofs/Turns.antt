-- The law of each turn of the loop. Assumes nothing.
use Prim.Native.Nat.{ℕ, zero, suc, ◌+◌, ◌-◌, ◌≤◌, ◌<◌, zero-le}
use native.Mathlib.Numerals.{add-one}
use native.Mathlib.Omega.{arith}
use mathlib.Core.Path.{◌≡◌, refl, sym, ap, ◌∙◌}
use mathlib.Core.List.{List, [], ◌∷◌, ◌++◌, append_assoc, append-nil}
use mathlib.Core.Bool.{Bool, true, false, cond}
use lib.ListN.{length, get_or, take, drop, set, length-append, length-drop, take-append-drop}
use lib.Seq.{drop-cons, take_all, take-append-le, take-nil}
use lib.Dec.{ltb, leb}
use borrow.Author.Tests.{lt-ltb, le-ltb, eq-eqb, ne_eqb, leb-true, leb-false}
use Rattle.facts.proofs.Lists.{take_short, take-most, empty-list}
use Rattle.text.specs.Text.{Stands}
use Rattle.text.proofs.Stand.{then, one, same_size}
use Rattle.split.specs.declared.Found.TheVariants.{Line, Kept}
use Rattle.split.specs.Split.{ahead, found_of, room_of}

-- the bytes y of the part are passed, none of them a newline
pub record Passed (d : List ℕ) (kept : ℕ) (part : List ℕ) (from : ℕ) (e : List ℕ) (k i : ℕ) : Type 0 where
  pub y : List ℕ
  pub whole : drop from part ≡ y ++ drop i part
  pub place : i ≡ from + length y
  pub clean : ahead (drop from part) ≡ y ++ ahead (drop i part)
  pub next : k ≡ kept + length (take (length d - kept) y)
  pub room : e ≡ take kept d ++ (take (length d - kept) y ++ drop k d)

pub begin : (d part : List ℕ) (kept from : ℕ) → Passed d kept part from d kept from
begin d part kept from =
    let z = take-nil {A = ℕ} (length d - kept) in
    record {
      y = [];
      whole = refl;
      place = omega arith;
      clean = refl;
      next = omega (arith, ap length z);
      room = rw z (sym (take-append-drop kept d));
    }

take-size : (m : ℕ) (l : List ℕ) → length (take m l) ≤ length l
take-size zero l = zero-le
take-size (suc m) [] = zero-le
take-size (suc m) (x ∷ l) = omega (arith, take-size m l)

module _ {d : List ℕ} {kept : ℕ} {part : List ℕ} {from : ℕ} {e : List ℕ} {k i : ℕ} (p : Passed d kept part from e k i) where
  room-is : ahead (drop from part) ≡ p.y → e ≡ room_of d kept (drop from part)
  room-is q =
      p.room
      ∙ ap (λ (j : ℕ). take kept d ++ (take (length d - kept) p.y ++ drop j d)) p.next
      ∙ ap (λ (z : List ℕ). take kept d ++ (take (length d - kept) z ++ drop (kept + length (take (length d - kept) z)) d)) (sym q)

  found-is : ahead (drop from part) ≡ p.y → (b : Bool) → ltb (length p.y) (length (drop from part)) ≡ b
      → found_of d kept from (drop from part) ≡ cond b (Line k (i + 1)) (Kept k)
  found-is q b l =
      ap (λ (z : List ℕ). cond (ltb (length z) (length (drop from part))) (Line (kept + length (take (length d - kept) z)) (from + length z + 1)) (Kept (kept + length (take (length d - kept) z)))) q
      ∙ ap (λ (x : Bool). cond x (Line (kept + length (take (length d - kept) p.y)) (from + length p.y + 1)) (Kept (kept + length (take (length d - kept) p.y)))) l
      ∙ ap (λ (j : ℕ). cond b (Line j (from + length p.y + 1)) (Kept j)) (sym p.next)
      ∙ ap (λ (j : ℕ). cond b (Line k (j + 1)) (Kept k)) (sym p.place)

  size : length (drop from part) ≡ length p.y + (length part - i)
  size = ap length p.whole ∙ length-append p.y (drop i part) ∙ ap (λ (j : ℕ). length p.y + j) (length-drop i part)

  -- a newline
  pub is-line : i < length part → get_or part i 0 ≡ 10 → (Line k (i + 1) ≡ found_of d kept from (drop from part)) × (e ≡ room_of d kept (drop from part))
  unfolding ahead
  is-line l n =
      let a : ahead (drop i part) ≡ [] = ap ahead (drop-cons part i 0 l) ∙ rw (eq-eqb (get_or part i 0) 10 n) refl in
      let q : ahead (drop from part) ≡ p.y = p.clean ∙ ap (λ (z : List ℕ). p.y ++ z) a ∙ append-nil p.y in
      let t = lt-ltb (length p.y) (length (drop from part)) (omega (arith, size)) in
      (sym (found-is q true t), room-is q)

  -- no byte left
  pub is-kept : length part ≤ i → (Kept k ≡ found_of d kept from (drop from part)) × (e ≡ room_of d kept (drop from part))
  unfolding ahead
  is-kept l =
      let a : ahead (drop i part) ≡ [] = ap ahead (empty-list (drop i part) (omega (arith, length-drop i part))) in
      let q : ahead (drop from part) ≡ p.y = p.clean ∙ ap (λ (z : List ℕ). p.y ++ z) a ∙ append-nil p.y in
      let t = le-ltb (length p.y) (length (drop from part)) (omega (arith, size)) in
      (sym (found-is q false t), room-is q)

  stands : kept ≤ length d → Stands d kept (take (length d - kept) p.y) e k
  stands h = record { next = p.next; within = omega (arith, p.next, take-most (length d - kept) p.y); whole = p.room }

  -- a room in which more is kept than it has bytes stays as it is
  beyond : length d < kept → length e ≡ length d
  beyond h =
      ap length p.room ∙ length-append (take kept d) (take (length d - kept) p.y ++ drop k d)
      ∙ omega (arith, ap length (take_all kept d (omega arith)), length-append (take (length d - kept) p.y) (drop k d), length-drop k d, take-most (length d - kept) p.y, p.next)

  same_by : (b : Bool) → leb kept (length d) ≡ b → length e ≡ length d
  same_by true h = same_size (stands (leb-true kept (length d) h))
  same_by false h = beyond (leb-false kept (length d) h)

  pub same-room : length e ≡ length d
  same-room = same_by (leb kept (length d)) refl

  module _ (l : i < length part) (n : get_or part i 0 ≡ 10 → ⊥) where
    onward : {f : List ℕ} {m : ℕ} → m ≡ kept + length (take (length d - kept) (p.y ++ (get_or part i 0 ∷ [])))
        → f ≡ take kept d ++ (take (length d - kept) (p.y ++ (get_or part i 0 ∷ [])) ++ drop m d) → Passed d kept part from f m (i + 1)
    unfolding ahead
    onward x r =
        let c : drop i part ≡ get_or part i 0 ∷ drop (i + 1) part = drop-cons part i 0 l ∙ rw add-one refl in
        let a : ahead (drop i part) ≡ get_or part i 0 ∷ ahead (drop (i + 1) part) = ap ahead c ∙ rw (ne_eqb (get_or part i 0) 10 n) refl in
        record {
          y = p.y ++ (get_or part i 0 ∷ []);
          whole = p.whole ∙ ap (λ (z : List ℕ). p.y ++ z) c ∙ sym (append_assoc p.y (get_or part i 0 ∷ []) (drop (i + 1) part));
          place = omega (arith, p.place, length-append p.y (get_or part i 0 ∷ []));
          clean = p.clean ∙ ap (λ (z : List ℕ). p.y ++ z) a ∙ sym (append_assoc p.y (get_or part i 0 ∷ []) (ahead (drop (i + 1) part)));
          next = x;
          room = r;
        }

    -- a byte that has room
    pub goes_in : k < length e → Passed d kept part from (set e k (get_or part i 0)) (k + 1) (i + 1)
    goes_in h =
        let s = stands (omega (arith, p.next, same-room)) in
        let f : take (length d - kept) p.y ≡ p.y = take_short (length d - kept) p.y (omega (arith, s.next, same-room, s.within)) in
        let g : p.y ++ (get_or part i 0 ∷ []) ≡ take (length d - kept) (p.y ++ (get_or part i 0 ∷ [])) =
        sym (take_all (length d - kept) (p.y ++ (get_or part i 0 ∷ [])) (omega (arith, length-append p.y (get_or part i 0 ∷ []), s.next, ap length f, same-room))) in
        let x = then s (one e k (get_or part i 0) h) in
        let w = rw (ap (λ (z : List ℕ). z ++ (get_or part i 0 ∷ [])) f ∙ g) at x in
        onward w.next w.whole

    -- and one that has none
    pub goes_by : length e ≤ k → Passed d kept part from e k (i + 1)
    goes_by h =
        let m : length d - kept ≤ length p.y = omega (arith, p.next, same-room, take-size (length d - kept) p.y) in
        let t = sym (take-append-le (length d - kept) p.y (get_or part i 0 ∷ []) m) in
        onward (rw t at p.next) (rw t at p.room)
