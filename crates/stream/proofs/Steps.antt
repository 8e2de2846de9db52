-- What the code answers, by what it decoded, is the definition's step. Assumes nothing.
use Rattle.refusal.specs.declared.Refusal.{Refusal}
use Rattle.refusal.specs.Refusals.{number_of}
use Prim.Native.Nat.{ℕ, min, ◌+◌, ◌-◌, ◌≤◌, ◌<◌}
use native.Mathlib.Omega.{arith, min_cases}
use mathlib.Core.Path.{◌≡◌, refl, sym, ap, ◌∙◌}
use mathlib.Core.List.{List, [], ◌++◌}
use mathlib.Core.Bool.{Bool, true, false, cond}
use lib.ListN.{length, take, drop, length-drop}
use lib.Seq.{length-take-le, take_all}
use lib.Dec.{ltb, eqb}
use lib.IntN.{ℤ}
use borrow.Author.Tests.{ltb-true, ltb-false, eqb-true, ne_eqb}
use Rattle.facts.proofs.Truth.{and-fails}
use Rattle.facts.proofs.Lists.{take-most}
use Rattle.text.specs.Text.{Stands, Put}
use Rattle.text.proofs.Stand.{before-place, same_size}
use Rattle.session.specs.declared.record.Record.{Record}
use Rattle.session.specs.declared.record.Decoded.{Decoded}
use Rattle.session.specs.declared.record.Decoded.TheVariants as D
use Rattle.session.specs.declared.Place.{Place}
use Rattle.session.specs.declared.Reading.TheVariants as A
use Rattle.session.specs.Limits.{offset_allowed}
use Rattle.stream.specs.declared.Standing.TheVariants.{Open, Refused}
use Rattle.stream.specs.declared.Step.TheVariants as S
use Rattle.stream.specs.Stream.{refused, reading, stopped, none, past, found_at, seen, move_for, is_cut, is_sound, step_in, step_on, room_on}
use Rattle.stream.proofs.Cut.{short, cut_number}
use Rattle.stream.proofs.Parts.{Goes, on-record, on-offset, all_seen}

-- the smaller of two numbers of bytes takes what the larger would
pub share-takes : (n from : ℕ) (part : List ℕ) → take (min (length part - from) n) (drop from part) ≡ take n (drop from part)
share-takes n from part =
    let l = drop from part in
    let s = length-drop from part in
    min_cases (length part - from) n (take (min (length part - from) n) l ≡ take n l)
    (λ h e. ap (λ (k : ℕ). take k l) e ∙ take_all (length part - from) l (omega (arith, s)) ∙ sym (take_all n l (omega (arith, s, h))))
    (λ h e. ap (λ (k : ℕ). take k l) e)

pub added : {kept m n : ℕ} {d e : List ℕ} (from : ℕ) (part : List ℕ) → 62 ≤ length d → kept ≤ 62
    → m ≡ min (length part - from) (62 - kept)
    → Put d kept (take (from + m - from) (drop from part)) e n → Stands d kept (take (62 - kept) (drop from part)) e n
added {kept} {m} {n} {d} {e} from part h k q p =
    let f : from + m - from ≡ m = omega arith in
    let x : take (from + m - from) (drop from part) ≡ take (62 - kept) (drop from part) = ap (λ (j : ℕ). take j (drop from part)) (f ∙ q) ∙ share-takes (62 - kept) from part in
    let y : Put d kept (take (62 - kept) (drop from part)) e n = rw x at p in
    y.fits (omega (arith, take-most (62 - kept) (drop from part)))

pub kept-short : (p : Place) (kept : ℕ) (d : List ℕ) → kept ≤ length d → found_at p (take kept d) ≡ D.Refused Refusal.CutShort → kept ≤ 62
kept-short p kept d w k = omega (arith, short (eqb p.at 0) (take kept d) k, length-take-le kept d w)

-- what is decoded to 11 is cut, and the other way round
pub cut-eleven : (d : Decoded) → is_cut d ≡ true → d ≡ D.Refused Refusal.CutShort
cut-eleven (D.Whole r n) e = let z : ◌≡◌ {A = ℕ} 0 1 = ap (λ (b : Bool). cond b 1 0) e in let w : ⊥ = omega arith in absurd w
cut-eleven (D.Offset z) e = let z : ◌≡◌ {A = ℕ} 0 1 = ap (λ (b : Bool). cond b 1 0) e in let w : ⊥ = omega arith in absurd w
cut-eleven (D.Refused n) e = ap D.Refused (cut_number n (eqb-true (number_of n) 11 e))

-- as many bytes as a record can have are never cut
not-cut : (b : Bool) (p : Place) (l : List ℕ) → is_cut (found_at p l) ≡ b → 62 ≤ length l → b ≡ false
not-cut true p l e h = let w : ⊥ = omega (arith, short (eqb p.at 0) l (cut-eleven (found_at p l) e)) in absurd w
not-cut false p l e h = refl

pub long-not-cut : (p : Place) (l : List ℕ) → 62 ≤ length l → is_cut (found_at p l) ≡ false
long-not-cut p l h = not-cut (is_cut (found_at p l)) p l refl h

pub not_sound : (p : Place) (l : List ℕ) → is_cut (found_at p l) ≡ false → is_sound p l ≡ false
not_sound p l e = and-fails (offset_allowed p.offset) (is_cut (found_at p l)) e

-- the front of a room that holds 62 bytes
pub front_long : (k : ℕ) (d : List ℕ) → 62 ≤ length d → 61 < k → 62 ≤ length (take k d)
front_long k d h l = by k d h l (ltb (length d) k) refl
  where
    by : (k : ℕ) (d : List ℕ) → 62 ≤ length d → 61 < k → (b : Bool) → ltb (length d) k ≡ b → 62 ≤ length (take k d)
    by k d h l true e = rw (take_all k d (omega (arith, ltb-true (length d) k e))) h
    by k d h l false e = rw (length-take-le k d (ltb-false (length d) k e)) (omega arith)

-- n bytes of e are the kept ones of d and what is taken of the part
pub record Lies (p : Place) (kept from n : ℕ) (d part e : List ℕ) : Type 0 where
  pub fits : kept ≤ length d
  pub unfinished : found_at p (take kept d) ≡ D.Refused Refusal.CutShort
  pub allowed : offset_allowed p.offset ≡ true
  pub stands : Stands d kept (take (62 - kept) (drop from part)) e n

module _ {p : Place} {kept from n : ℕ} {d part e : List ℕ} (g : Lies p kept from n d part e) where
  size : length (take kept d) ≡ kept
  size = length-take-le kept d g.fits

  -- the bytes that are decoded
  looked : take n e ≡ seen (take kept d) (drop from part)
  looked = before-place g.stands ∙ ap (λ (j : ℕ). take kept d ++ take (62 - j) (drop from part)) (sym size)

  pub filled : e ≡ room_on kept d part from
  filled =
      g.stands.whole ∙ ap (λ (j : ℕ). take kept d ++ (take (62 - kept) (drop from part) ++ drop j d)) g.stands.next

  moved : (z : Decoded) → found_at p (take n e) ≡ z → step_on p kept d part from ≡ step_in from (move_for z p (take kept d) (drop from part))
  moved z i = ap (λ (y : Decoded). step_in from (move_for y p (take kept d) (drop from part))) (ap (found_at p) (sym looked) ∙ i)

  pub inner : n ≤ length e
  inner = omega (arith, g.stands.within, same_size g.stands)

  module _ {r : Record} {m : ℕ} (i : found_at p (take n e) ≡ D.Whole r m) where
    record-goes : Goes (reading p (take kept d)) (drop from part) (A.Record r (past p m)) (m - length (take kept d)) (reading (past p m) [])
    record-goes = on-record p (take kept d) (drop from part) (g.unfinished, g.allowed) r m (ap (found_at p) (sym looked) ∙ i)

    pub record-fits : (kept < m) × (m - kept ≤ length part - from)
    record-fits = (omega (arith, record-goes.some, size), omega (arith, record-goes.inside, size, length-drop from part))

    pub is-record : S.Record r (past p m) (from + (m - kept)) ≡ step_on p kept d part from
    is-record = ap (λ (j : ℕ). S.Record r (past p m) (from + (m - j))) (sym size) ∙ sym (moved (D.Whole r m) i)

  module _ {z : ℤ} (i : found_at p (take n e) ≡ D.Offset z) where
    offset-goes : Goes (reading p (take kept d)) (drop from part) (A.Offset (record { at = 8; offset = z })) (8 - length (take kept d)) (reading (record { at = 8; offset = z }) [])
    offset-goes = on-offset p (take kept d) (drop from part) (g.unfinished, g.allowed) (record { at = 8; offset = z }) refl (ap (found_at p) (sym looked) ∙ i)

    pub offset-within : (kept < 8) × (8 - kept ≤ length part - from)
    offset-within = (omega (arith, offset-goes.some, size), omega (arith, offset-goes.inside, size, length-drop from part))

    pub is_offset_lem : S.Offset (record { at = 8; offset = z }) (from + (8 - kept)) ≡ step_on p kept d part from
    is_offset_lem = ap (λ (j : ℕ). S.Offset (record { at = 8; offset = z }) (from + (8 - j))) (sym size) ∙ sym (moved (D.Offset z) i)

  pub is-cut-short : found_at p (take n e) ≡ D.Refused Refusal.CutShort → S.Stopped (Open p n) ≡ step_on p kept d part from
  is-cut-short i =
      let a = all_seen p (take kept d) (drop from part) (g.unfinished, g.allowed) (ap (found_at p) (sym looked) ∙ i) in
      let l : n ≡ length (take kept d ++ drop from part) =
      sym (length-take-le n e inner) ∙ ap length looked ∙ ap (λ (x : List ℕ). length (take kept d ++ x)) a in
      ap (λ (j : ℕ). S.Stopped (Open p j)) l ∙ sym (moved (D.Refused Refusal.CutShort) i)

  pub is-refused : (m : Refusal) → (number_of m ≡ 11 → ⊥) → found_at p (take n e) ≡ D.Refused m → S.Stopped (Refused (number_of m) p.at) ≡ step_on p kept d part from
  is-refused m h i =
      sym (moved (D.Refused m) i ∙ ap (λ (b : Bool). step_in from (none (cond b (reading p (take kept d ++ drop from part)) (stopped (refused (number_of m) p.at))))) (ne_eqb (number_of m) 11 h))
