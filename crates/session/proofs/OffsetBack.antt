-- The offset's record there and back, and bytes behind it: the laws of the table's records, for kind 4. Assumes nothing.
use Rattle.std.specs.Prelude.{Err}
use Rattle.refusal.specs.declared.Refusal.TheVariants as Refusal
use Prim.Native.Nat.{ℕ, ◌≤◌}
use native.Mathlib.Omega.{arith}
use mathlib.Core.Path.{◌≡◌, refl, sym, ap, ◌∙◌}
use mathlib.Core.List.{List, ◌++◌}
use mathlib.Core.Bool.{Bool, true, false, cond, not, ◌&&◌}
use lib.ListN.{length, take, drop, length-append}
use lib.Seq.{take-add}
use lib.Dec.{ltb, leb, eqb}
use lib.IntN.{ℤ}
use mir.Syntax.{w16}
use mir.Val.{SFits, to_z}
use mir.Facts.{to_z-of_z, Fits-of_z, of_z-to_z}
use borrow.Author.Tests.{le-ltb, le-leb, ltb-false, lt-ltb, leb-true, leb-false}
use Rattle.session.specs.declared.record.Decoded.TheVariants.{Offset, Refused}
use Rattle.field.specs.Bytes.{field, bytes_le, short_of, short_bits}
use Rattle.session.specs.Kinds.{kind_of}
use Rattle.session.specs.Limits.{offset_allowed}
use Rattle.session.specs.Decode.{judged, decoded, decode_of}
use Rattle.session.specs.Offset.{is_offset, minutes_at, good_offset, offset_of, decode_at, offset_bytes}
use Rattle.field.proofs.Bytes.{Bytes, le_bytes}
use Rattle.session.proofs.Offsets.{at_offset}
use Rattle.session.proofs.WriteBack.{field-bytes, field_below}
use Rattle.session.proofs.Stable.{field-more, stable}

module _ (z : ℤ) (rest : List ℕ) (fits : SFits w16 z) where
  minutes-back : minutes_at (offset_bytes z ++ rest) ≡ z
  unfolding bytes_le
  minutes-back = ap (to_z w16) (le_bytes 2 (short_bits z) (Fits-of_z {w = w16} {z = z} fits).fits) ∙ to_z-of_z {w = w16} {z = z} fits

  -- decoding the bytes of an allowed offset, first in a session, gives it
  pub offset-read-back : offset_allowed z ≡ true → decode_at true (offset_bytes z ++ rest) ≡ Offset z
  unfolding bytes_le
  offset-read-back a =
      let s = offset_bytes z ++ rest in
      ap (λ (b : Bool). cond (b && true) (offset_of true s) (decode_of s)) (le-leb 4 (length s) (omega arith))
      ∙ ap (λ (b : Bool). cond b (Refused Refusal.CutShort) (cond (offset_allowed (minutes_at s)) (Offset (minutes_at s)) (Refused Refusal.NotAllowed))) (le-ltb (length s) 8 (omega arith))
      ∙ ap (λ (y : ℤ). cond (offset_allowed y) (Offset y) (Refused Refusal.NotAllowed)) minutes-back
      ∙ ap (λ (b : Bool). cond b (Offset z) (Refused Refusal.NotAllowed)) a

-- the bytes of a decoded offset are those it was read from
pub offset-write-back : (first : Bool) (s : List ℕ) (z : ℤ) → Bytes s → decode_at first s ≡ Offset z → offset_bytes z ≡ take 8 s
offset-write-back first s z b p =
    let h = at_offset first s z p in
    let l = h.size in
    let m : short_bits z ≡ field 4 2 s =
    ap short_bits (sym h.minutes) ∙ of_z-to_z {w = w16} {n = field 4 2 s} (record { fits = field_below s b 4 2 (omega (arith, l)) }) in
    let u : bytes_le 2 8 ≡ take 2 s = ap (bytes_le 2) (sym h.length-field) ∙ field-bytes s b 0 2 (omega (arith, l)) in
    let v : bytes_le 2 4 ≡ take 2 (drop 2 s) = ap (bytes_le 2) (sym h.kind-field) ∙ field-bytes s b 2 2 (omega (arith, l)) in
    let w : bytes_le 2 (short_bits z) ≡ take 2 (drop 4 s) = ap (bytes_le 2) m ∙ field-bytes s b 4 2 (omega (arith, l)) in
    let x : bytes_le 2 0 ≡ take 2 (drop 6 s) = ap (bytes_le 2) (sym h.zeros) ∙ field-bytes s b 6 2 l in
    cc (u, v, w, x, take-add 2 2 s, take-add 4 2 s, take-add 6 2 s)

-- more bytes behind a record that is settled change nothing, whether it is first or not
module _ (first : Bool) (s t : List ℕ) where
  longer : (n : ℕ) → n ≤ length s → ltb (length (s ++ t)) n ≡ false
  longer n h = le-ltb (length (s ++ t)) n (simp length-append (omega arith))

  good_more : 8 ≤ length s → good_offset first (s ++ t) ≡ good_offset first s
  good_more h = rw (field-more s t 6 2 h, field-more s t 4 2 (omega arith)) refl

  by_size : (e b : Bool) → ltb (length s) 8 ≡ b
      → (cond (not e) (Refused Refusal.WrongLength) (cond b (Refused Refusal.CutShort) (cond (good_offset first s) (Offset (minutes_at s)) (Refused Refusal.NotAllowed))) ≡ Refused Refusal.CutShort → ⊥)
      → cond (not e) (Refused Refusal.WrongLength) (cond (ltb (length (s ++ t)) 8) (Refused Refusal.CutShort) (cond (good_offset first (s ++ t)) (Offset (minutes_at (s ++ t))) (Refused Refusal.NotAllowed)))
      ≡ cond (not e) (Refused Refusal.WrongLength) (cond b (Refused Refusal.CutShort) (cond (good_offset first s) (Offset (minutes_at s)) (Refused Refusal.NotAllowed)))
  by_size false b q z = refl
  by_size true true q z = absurd (z refl)
  by_size true false q z =
      let l = ltb-false (length s) 8 q in
      ap (λ (x : Bool). cond x (Refused Refusal.CutShort) (cond (good_offset first (s ++ t)) (Offset (minutes_at (s ++ t))) (Refused Refusal.NotAllowed))) (longer 8 l)
      ∙ ap (λ (x : Bool). cond x (Offset (minutes_at (s ++ t))) (Refused Refusal.NotAllowed)) (good_more l)
      ∙ ap (λ (n : ℕ). cond (good_offset first s) (Offset (short_of n)) (Refused Refusal.NotAllowed)) (field-more s t 4 2 (omega arith))

  offset-more : 4 ≤ length s → (offset_of first s ≡ Refused Refusal.CutShort → ⊥) → offset_of first (s ++ t) ≡ offset_of first s
  offset-more h z =
      ap (λ (n : ℕ). cond (not (eqb n 8)) (Refused Refusal.WrongLength) (cond (ltb (length (s ++ t)) 8) (Refused Refusal.CutShort) (cond (good_offset first (s ++ t)) (Offset (minutes_at (s ++ t))) (Refused Refusal.NotAllowed)))) (field-more s t 0 2 (omega arith))
      ∙ by_size (eqb (field 0 2 s) 8) (ltb (length s) 8) refl z

  by_kind : (b : Bool) → 4 ≤ length s → (cond b (offset_of first s) (decode_of s) ≡ Refused Refusal.CutShort → ⊥)
      → cond b (offset_of first (s ++ t)) (decode_of (s ++ t)) ≡ cond b (offset_of first s) (decode_of s)
  by_kind true h z = offset-more h z
  by_kind false h z = stable s t z

  kind-more : 4 ≤ length s → is_offset (s ++ t) ≡ is_offset s
  kind-more h =
      ap (λ (b : Bool). b && eqb (field 2 2 (s ++ t)) 4) (le-leb 4 (length (s ++ t)) (simp length-append (omega arith)))
      ∙ ap (λ (n : ℕ). eqb n 4) (field-more s t 2 2 h)
      ∙ ap (λ (b : Bool). b && eqb (field 2 2 s) 4) (sym (le-leb 4 (length s) h))

  -- fewer than four bytes are never settled
  cut : (b : Bool) → leb 4 (length s) ≡ b → (cond (b && eqb (field 2 2 s) 4) (offset_of first s) (decode_of s) ≡ Refused Refusal.CutShort → ⊥) → 4 ≤ length s
  cut true q z = leb-true 4 (length s) q
  cut false q z =
      absurd
      (z (ap (λ (b : Bool). decoded (cond b (Err Refusal.CutShort) (cond (ltb (field 0 2 s) 4) (Err Refusal.WrongLength) (judged (kind_of (field 2 2 s)) s))) s) (lt-ltb (length s) 4 (leb-false 4 (length s) q))))

  pub stable-at : (decode_at first s ≡ Refused Refusal.CutShort → ⊥) → decode_at first (s ++ t) ≡ decode_at first s
  stable-at z =
      let h = cut (leb 4 (length s)) refl z in
      ap (λ (b : Bool). cond b (offset_of first (s ++ t)) (decode_of (s ++ t))) (kind-more h) ∙ by_kind (is_offset s) h z
