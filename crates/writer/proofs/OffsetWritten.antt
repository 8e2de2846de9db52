-- The laws of Back for the offset's record: what is written is read, and what was read is written as it stands. Assumes nothing.
use Rattle.std.specs.Prelude.{Ok}
use Rattle.refusal.specs.declared.Refusal.TheVariants as Refusal
use Prim.Native.Nat.{ℕ, ◌+◌, ◌≤◌}
use native.Mathlib.Omega.{arith}
use mathlib.Core.Path.{◌≡◌, refl, sym, ap, ◌∙◌}
use mathlib.Core.List.{List, [], ◌++◌, append-nil}
use mathlib.Core.Bool.{Bool, true, false, cond, not}
use lib.ListN.{length, take, drop, length-drop, take-append-drop}
use lib.Dec.{ltb, leb, eqb}
use lib.IntN.{ℤ}
use mir.Syntax.{w16}
use mir.Val.{SFits}
use borrow.Author.Tests.{leb-true, le-leb, le-ltb, ltb-false, eqb-true, eq-eqb}
use Rattle.facts.proofs.Truth.{each}
use Rattle.session.proofs.Progress.{passes}
use Rattle.session.specs.declared.record.Decoded.{Decoded}
use Rattle.session.specs.declared.record.Decoded.TheVariants as D
use Rattle.session.specs.declared.Place.{Place}
use Rattle.session.specs.declared.Reading.{Reading}
use Rattle.session.specs.declared.Reading.TheVariants as A
use Rattle.session.specs.Limits.{offset_allowed}
use Rattle.session.specs.Offset.{decode_at, offset_bytes}
use Rattle.session.specs.Read.{start, placed, read_at}
use Rattle.field.proofs.Bytes.{Bytes, bytes_drop}
use Rattle.session.proofs.Offsets.{at_offset}
use Rattle.session.proofs.OffsetBack.{offset-read-back, offset-write-back}
use Rattle.text.specs.Text.{Stands}
use Rattle.text.proofs.Stand.{before-place}
use Rattle.writer.specs.Write.{has_room, offset_may, offset_written, offset_buffer}
use Rattle.writer.proofs.Laws.{offset-length}
use Rattle.writer.proofs.Cases.{stood}

module _ (d : List ℕ) (z : ℤ) (allow : offset_allowed z ≡ true) (room : has_room 0 8 (length d) ≡ true) where
  -- the session up to the place behind the record
  used : take 8 (offset_buffer d 0 z) ≡ offset_bytes z
  used =
      let h : 8 ≤ length d = leb-true 8 (length d) (each (leb 8 (length d)) (leb 8 65536) room).0 in
      let s : Stands d 0 (offset_bytes z) (offset_buffer d 0 z) 8 =
      record { next = omega (arith, offset-length z); within = h; whole = sym (stood (offset_may 0 z) d 0 8 (offset_bytes z) allow room).1 } in
      before-place s

  used-read : (o : ℤ) → SFits w16 z → offset_allowed o ≡ true
      → read_at (offset_bytes z) (record { at = 0; offset = o }) ≡ A.Offset (record { at = 8; offset = z })
  used-read o f a =
      let s = offset_bytes z in
      let p : Place = record { at = 0; offset = o } in
      let l = offset-length z in
      let e : decode_at true s ≡ D.Offset z = ap (decode_at true) (sym (append-nil s)) ∙ offset-read-back z [] f allow in
      passes (ltb 65536 (length s)) (offset_allowed o) (ltb (length s) 0) (eqb 0 (length s)) start p (placed (decode_at true s) p)
      (le-ltb 65536 (length s) (omega (arith, l))) a (le-ltb (length s) 0 (omega arith)) (ap (eqb 0) l)
      ∙ ap (λ (x : Decoded). placed x p) e

  -- an offset that is written is read, under any offset before it
  pub offset-read-written : (o : ℤ) → SFits w16 z → offset_allowed o ≡ true
      → read_at (take 8 (offset_buffer d 0 z)) (record { at = 0; offset = o }) ≡ A.Offset (record { at = 8; offset = z })
  offset-read-written o f a = ap (λ (s : List ℕ). read_at s (record { at = 0; offset = o })) used ∙ used-read o f a

told : (d : Decoded) (p q : Place) → placed d p ≡ A.Offset q → (d ≡ D.Offset q.offset) × (q.at ≡ 8)
told (D.Whole x n) p q e = let w : ◌≡◌ {A = ℕ} 0 1 = cc in let x : ⊥ = omega arith in absurd x
told (D.Offset z) p q e =
    let g : ◌≡◌ {A = Place} (record { at = 8; offset = z }) q = cc in
    (ap (λ (y : Place). D.Offset y.offset) g, ap (λ (y : Place). y.at) (sym g))
told (D.Refused n) p q e = let w : ◌≡◌ {A = ℕ} 0 1 = cc in let x : ⊥ = omega arith in absurd x

reached : (a b c d : Bool) (t p q : Place) (x : Reading)
    → cond a (A.Refused Refusal.WrongLength t) (cond (not b) (A.Refused Refusal.NotAllowed p) (cond c (A.Refused Refusal.CutShort p) (cond d A.End x))) ≡ A.Offset q → (a ≡ false) × (x ≡ A.Offset q)
reached true b c d t p q x e = let w : ◌≡◌ {A = ℕ} 0 1 = cc in let x : ⊥ = omega arith in absurd x
reached false false c d t p q x e = let w : ◌≡◌ {A = ℕ} 0 1 = cc in let x : ⊥ = omega arith in absurd x
reached false true true d t p q x e = let w : ◌≡◌ {A = ℕ} 0 1 = cc in let x : ⊥ = omega arith in absurd x
reached false true false true t p q x e = let w : ◌≡◌ {A = ℕ} 0 1 = cc in let x : ⊥ = omega arith in absurd x
reached false true false false t p q x e = (refl, e)

-- an offset that was read was decoded, and the next place is behind it
pub offset-found : (s : List ℕ) (p q : Place) → read_at s p ≡ A.Offset q
    → (length s ≤ 65536) × (decode_at (eqb p.at 0) (drop p.at s) ≡ D.Offset q.offset) × (q.at ≡ 8)
offset-found s p q e =
    let f = eqb p.at 0 in
    let l = drop p.at s in
    let x = reached (ltb 65536 (length s)) (offset_allowed p.offset) (ltb (length s) p.at) (eqb p.at (length s)) start p q (placed (decode_at f l) p) e in
    let y = told (decode_at f l) p q x.1 in
    (ltb-false 65536 (length s) x.0, y.0, y.1)

-- an offset that was read is written as it stands
pub offset-write-read : (s : List ℕ) (p q : Place) → Bytes s → read_at s p ≡ A.Offset q
    → (offset_written s p.at q.offset ≡ Ok q.at) × (offset_buffer s p.at q.offset ≡ s)
offset-write-read s p q b e =
    let f = eqb p.at 0 in
    let l = drop p.at s in
    let y = offset-found s p q e in
    let z = q.offset in
    let h = at_offset f l z y.1 in
    let w = offset-write-back f l z (bytes_drop p.at s b) y.1 in
    let a : p.at ≡ 0 = eqb-true p.at 0 h.first_one in
    let k : p.at + 8 ≤ length s = omega (arith, h.size, length-drop p.at s) in
    let i : has_room p.at 8 (length s) ≡ true =
    rw (le-leb (p.at + 8) (length s) k, le-leb (p.at + 8) 65536 (omega (arith, a))) refl in
    let m : offset_may p.at z ≡ true = rw (eq-eqb p.at 0 a, h.allowed) refl in
    let t = stood (offset_may p.at z) s p.at 8 (offset_bytes z) m i in
    let v : drop (p.at + 8) s ≡ drop 8 l = ap (λ (n : ℕ). drop (n + 8) s) a ∙ sym (ap (λ (n : ℕ). drop 8 (drop n s)) a) in
    let n : p.at + 8 ≡ q.at = ap (λ (n : ℕ). n + 8) a ∙ sym y.2 in (
      sym t.0 ∙ ap Ok n,
      sym t.1 ∙ ap (λ (x : List ℕ). take p.at s ++ (x ++ drop (p.at + 8) s)) w
          ∙ ap (λ (x : List ℕ). take p.at s ++ (take 8 l ++ x)) v
          ∙ ap (λ (x : List ℕ). take p.at s ++ x) (take-append-drop 8 l)
          ∙ take-append-drop p.at s,
    )
