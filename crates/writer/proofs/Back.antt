-- Reading what was written gives the record and the next place, and writing what was read changes nothing: once over the
-- kind. Assumes nothing.
use Rattle.std.specs.Prelude.{Ok}
use Prim.Native.Nat.{ℕ, ◌+◌, ◌≤◌}
use native.Mathlib.Omega.{arith}
use mathlib.Core.Path.{◌≡◌, refl, sym, ap, ◌∙◌}
use mathlib.Core.List.{List, [], ◌++◌, append-nil}
use mathlib.Core.Bool.{true}
use lib.ListN.{length, take, drop, length-append, length-drop, take-append-drop}
use lib.Seq.{length-take-le, drop_at, drop-drop}
use lib.Dec.{leb}
use lib.IntN.{ℤ}
use borrow.Author.Tests.{leb-true, le-leb}
use Rattle.facts.proofs.Truth.{each}
use Rattle.session.specs.declared.record.Record.{Record}
use Rattle.session.specs.declared.record.Decoded.TheVariants.{Whole}
use Rattle.session.specs.declared.Place.{Place}
use Rattle.session.specs.declared.Reading.TheVariants as A
use Rattle.session.specs.Limits.{offset_allowed}
use Rattle.session.specs.Kinds.{record_length}
use Rattle.session.specs.Layout.{kind_in, bytes_of}
use Rattle.session.specs.Decode.{allowed_in, decode_of, Held}
use Rattle.session.specs.Read.{read_at}
use Rattle.field.proofs.Bytes.{Bytes, bytes_drop}
use Rattle.session.proofs.Table.{long}
use Rattle.session.proofs.Heads.{whole-fits}
use Rattle.session.proofs.ReadBack.{read_back, bytes-of-length}
use Rattle.session.proofs.WriteBack.{write-back}
use Rattle.session.proofs.Allowed.{decoded-allowed}
use Rattle.session.proofs.Progress.{found, reads}
use Rattle.text.specs.Text.{Stands}
use Rattle.text.proofs.Stand.{before-place}
use Rattle.writer.specs.Write.{has_room, place_behind, written_of, buffer_of}
use Rattle.writer.proofs.Cases.{stood}

module _ (d : List ℕ) (at : ℕ) (r : Record) (allow : allowed_in r ≡ true) (room : has_room at (record_length (kind_in r)) (length d) ≡ true) where
  inside : place_behind at r ≤ length d
  inside = leb-true (place_behind at r) (length d) (each (leb (place_behind at r) (length d)) (leb (place_behind at r) 65536) room).0

  -- the session up to the place behind the record
  used : take (place_behind at r) (buffer_of d at r) ≡ take at d ++ bytes_of r
  used =
      let s : Stands d at (bytes_of r) (buffer_of d at r) (place_behind at r) =
      record { next = ap (λ (n : ℕ). at + n) (sym (bytes-of-length r)); within = inside; whole = sym (stood (allowed_in r) d at (record_length (kind_in r)) (bytes_of r) allow room).1 } in
      before-place s

  used-read : (o : ℤ) → Held r → offset_allowed o ≡ true
      → read_at (take at d ++ bytes_of r) (record { at = at; offset = o }) ≡ A.Record r (record { at = place_behind at r; offset = o })
  used-read o h a =
      let s = take at d ++ bytes_of r in
      let t = length-take-le at d (omega (arith, inside)) in
      let l : length s ≡ place_behind at r = length-append (take at d) (bytes_of r) ∙ omega (arith, t, bytes-of-length r) in
      let e : drop at s ≡ bytes_of r = drop_at (take at d) (bytes_of r) at t in
      let w : decode_of (drop at s) ≡ Whole r (record_length (kind_in r)) = ap decode_of (e ∙ sym (append-nil (bytes_of r))) ∙ read_back r [] h allow in
      let b = leb-true (place_behind at r) 65536 (each (leb (place_behind at r) (length d)) (leb (place_behind at r) 65536) room).1 in
      reads s (record { at = at; offset = o }) r (record_length (kind_in r)) (omega (arith, l, b)) a (omega (arith, l, long (kind_in r))) w

  -- a record that is written is read
  pub read-written : (o : ℤ) → Held r → offset_allowed o ≡ true
      → read_at (take (place_behind at r) (buffer_of d at r)) (record { at = at; offset = o }) ≡ A.Record r (record { at = place_behind at r; offset = o })
  read-written o h a = ap (λ (s : List ℕ). read_at s (record { at = at; offset = o })) used ∙ used-read o h a

-- a record that was read is written as it stands
pub write_read : (s : List ℕ) (p : Place) (r : Record) (q : Place) → Bytes s → read_at s p ≡ A.Record r q
    → (written_of s p.at r ≡ Ok q.at) × (buffer_of s p.at r ≡ s)
write_read s p r q b e =
    let f = found s p r q e in
    let n = f.size in
    let l = drop p.at s in
    let z = whole-fits l r n f.whole in
    let y = write-back l (bytes_drop p.at s b) r n f.whole in
    let m : n ≡ record_length (kind_in r) = sym (length-take-le n l z.1) ∙ ap length (sym y) ∙ bytes-of-length r in
    let k : place_behind p.at r ≡ p.at + n = ap (λ (x : ℕ). p.at + x) (sym m) in
    let g : place_behind p.at r ≤ length s = omega (arith, k, z.0, z.1, length-drop p.at s) in
    let i : has_room p.at (record_length (kind_in r)) (length s) ≡ true =
    rw (le-leb (place_behind p.at r) (length s) g, le-leb (place_behind p.at r) 65536 (omega (arith, g, f.short))) refl in
    let a = (decoded-allowed l (bytes_drop p.at s b) r n f.whole).0 in
    let t = stood (allowed_in r) s p.at (record_length (kind_in r)) (bytes_of r) a i in
    let v : drop (place_behind p.at r) s ≡ drop n l = ap (λ (x : ℕ). drop x s) k ∙ sym (drop-drop n p.at s) in (
      sym t.0 ∙ ap Ok (k ∙ sym f.next),
      sym t.1 ∙ ap (λ (x : List ℕ). take p.at s ++ (x ++ drop (place_behind p.at r) s)) y
          ∙ ap (λ (x : List ℕ). take p.at s ++ (take n l ++ x)) v
          ∙ ap (λ (x : List ℕ). take p.at s ++ x) (take-append-drop n l)
          ∙ take-append-drop p.at s,
    )
