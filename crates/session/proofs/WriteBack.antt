-- The bytes of a decoded record are those it was read from: once over the kind. Assumes nothing.
use Rattle.std.specs.Prelude.{Err, Ok, Result}
use Rattle.refusal.specs.declared.Refusal.{Refusal}
use Prim.Native.Nat.{ℕ, zero, suc, ◌+◌, ◌*◌, ◌^◌, ◌≤◌, ◌<◌}
use native.Mathlib.Omega.{arith}
use mathlib.Core.Path.{◌≡◌, refl, sym, ap, ◌∙◌}
use mathlib.Core.List.{List, ◌∷◌, ◌++◌}
use mathlib.Core.Bool.{true}
use lib.ListN.{length, take, drop, length-drop}
use lib.Seq.{take-add, drop-drop, drop-cons, length-take-le}
use lib.Ieee.{binary64}
use lib.Ieee.Bits.{to_bits-of_bits}
use mir.Syntax.{w64}
use mir.Facts.{of_z-to_z}
use Rattle.facts.proofs.Truth.{each}
use Rattle.real.proofs.Patterns.{finite-not-nan}
use Rattle.real.specs.F64.{finite}
use Rattle.session.specs.declared.record.Kind.{Kind}
use Rattle.session.specs.declared.record.Kind.TheVariants.{State, Burn, Mark}
use Rattle.session.specs.declared.record.Record.{Record}
use Rattle.session.specs.declared.record.Decoded.TheVariants.{Whole}
use Rattle.field.specs.Bytes.{le, field, bytes_le, bits_of}
use Rattle.session.specs.Kinds.{kind_number, record_length, count_of, top_of}
use Rattle.session.specs.Layout.{vehicle_at, byte_at, time_at, bits_at, number_at, numbers_from, all_finite, record_at, header_bytes, number_bytes, bytes_of}
use Rattle.session.specs.Decode.{head_of, decoded, decode_of}
use Rattle.session.proofs.Table.{length-law, kind_number_lem}
use Rattle.session.proofs.Heads.{good-head, good-kind}
use Rattle.field.proofs.Bytes.{Bytes, bytes_le_lem, bytes_take, bytes_drop, le_below}

module _ (s : List ℕ) (bytes : Bytes s) where
  part_length : (o w : ℕ) → o + w ≤ length s → length (take w (drop o s)) ≡ w
  part_length o w h = length-take-le w (drop o s) (simp length-drop (omega arith))

  -- the bytes of a field
  pub field-bytes : (o w : ℕ) → o + w ≤ length s → bytes_le w (field o w s) ≡ take w (drop o s)
  field-bytes o w h =
      let p = take w (drop o s) in
      ap (λ (n : ℕ). bytes_le n (le p)) (sym (part_length o w h)) ∙ bytes_le_lem p (bytes_take w (drop o s) (bytes_drop o s bytes))

  pub field_below : (o w : ℕ) → o + w ≤ length s → field o w s < 256 ^ w
  field_below o w h = rw (part_length o w h) at (le_below (take w (drop o s)) (bytes_take w (drop o s) (bytes_drop o s bytes)))

  -- the numbers
  numbers-bytes : (j n : ℕ) → 14 + 8 * (j + n) ≤ length s → all_finite (numbers_from j n s) ≡ true
      → number_bytes (numbers_from j n s) ≡ take (8 * n) (drop (14 + 8 * j) s)
  unfolding numbers_from all_finite number_bytes
  numbers-bytes j zero h f = refl
  numbers-bytes j (suc n) h f =
      let b = each (finite (number_at s j)) (all_finite (numbers_from (j + 1) n s)) f in
      let l = drop (14 + 8 * j) s in
      let e : 8 * suc n ≡ 8 + 8 * n = omega arith in
      let p : 14 + 8 * j + 8 ≡ 14 + 8 * (j + 1) = omega arith in
      ap (λ (k : ℕ). bytes_le 8 k ++ number_bytes (numbers_from (j + 1) n s)) (to_bits-of_bits binary64 (bits_at s j) (field_below (14 + 8 * j) 8 (omega arith)) (finite-not-nan (number_at s j) b.0))
      ∙ ap (λ (z : List ℕ). z ++ number_bytes (numbers_from (j + 1) n s)) (field-bytes (14 + 8 * j) 8 (omega arith))
      ∙ ap (λ (z : List ℕ). take 8 l ++ z) (numbers-bytes (j + 1) n (omega arith) b.1)
      ∙ ap (λ (z : List ℕ). take 8 l ++ take (8 * n) z) (ap (λ (k : ℕ). drop k s) (sym p) ∙ sym (drop-drop 8 (14 + 8 * j) s))
      ∙ sym (take-add 8 (8 * n) l)
      ∙ ap (λ (k : ℕ). take k l) (sym e)

  -- the header
  header_bytes_lem : (k : Kind) → field 0 2 s ≡ record_length k → field 2 2 s ≡ kind_number k → 14 ≤ length s
      → header_bytes k (vehicle_at s) (byte_at s) (time_at s) ≡ take 14 s
  header_bytes_lem k a b h =
      let t : bits_of (time_at s) ≡ field 6 8 s = of_z-to_z {w = w64} {n = field 6 8 s} (record { fits = field_below 6 8 h }) in
      let v = vehicle_at s ∷ byte_at s ∷ take 8 (drop 6 s) in
      let c : drop 4 s ≡ vehicle_at s ∷ byte_at s ∷ drop 6 s =
      drop-cons s 4 0 (omega arith) ∙ ap (λ (z : List ℕ). vehicle_at s ∷ z) (drop-cons s 5 0 (omega arith)) in
      ap (λ (n : ℕ). bytes_le 2 (record_length k) ++ bytes_le 2 (kind_number k) ++ (vehicle_at s ∷ byte_at s ∷ bytes_le 8 n)) t
      ∙ ap (λ (z : List ℕ). bytes_le 2 (record_length k) ++ bytes_le 2 (kind_number k) ++ (vehicle_at s ∷ byte_at s ∷ z)) (field-bytes 6 8 h)
      ∙ ap (λ (n : ℕ). bytes_le 2 n ++ bytes_le 2 (kind_number k) ++ v) (sym a)
      ∙ ap (λ (n : ℕ). bytes_le 2 (field 0 2 s) ++ bytes_le 2 n ++ v) (sym b)
      ∙ ap (λ (z : List ℕ). z ++ bytes_le 2 (field 2 2 s) ++ v) (field-bytes 0 2 (omega arith))
      ∙ ap (λ (z : List ℕ). take 2 s ++ z ++ v) (field-bytes 2 2 (omega arith))
      ∙ ap (λ (z : List ℕ). z ++ v) (sym (take-add 2 2 s))
      ∙ ap (λ (z : List ℕ). take 4 s ++ take 10 z) (sym c)
      ∙ sym (take-add 4 10 s)

  -- the fields of the record are those of the bytes
  own-bytes : (k : Kind) → byte_at s ≤ top_of k
      → bytes_of (record_at k s) ≡ header_bytes k (vehicle_at s) (byte_at s) (time_at s) ++ number_bytes (numbers_from 0 (count_of k) s)
  unfolding numbers_from
  own-bytes State h = refl
  own-bytes Burn h = let z : 0 ≡ byte_at s = omega arith in ap (λ (b : ℕ). header_bytes Burn (vehicle_at s) b (time_at s) ++ number_bytes (numbers_from 0 3 s)) z
  own-bytes Mark h = let z : 0 ≡ byte_at s = omega arith in ap (λ (b : ℕ). header_bytes Mark (vehicle_at s) b (time_at s) ++ number_bytes (numbers_from 0 2 s)) z

  kind-bytes : (k : Kind) → head_of s ≡ Ok k → bytes_of (record_at k s) ≡ take (record_length k) s
  kind-bytes k e =
      let h = good-head s k e in
      let l = length-law k in
      own-bytes k h.byte
      ∙ ap (λ (z : List ℕ). z ++ number_bytes (numbers_from 0 (count_of k) s)) (header_bytes_lem k h.length-field (kind_number_lem (field 2 2 s) k (good-kind s k e)) (omega (arith, h.size)))
      ∙ ap (λ (z : List ℕ). take 14 s ++ z) (numbers-bytes 0 (count_of k) (omega (arith, h.size)) h.numbers)
      ∙ sym (take-add 14 (8 * count_of k) s)
      ∙ ap (λ (n : ℕ). take n s) (sym l)

  head_bytes : (h : Result Kind Refusal) (r : Record) (n : ℕ) → h ≡ head_of s → decoded h s ≡ Whole r n → bytes_of r ≡ take n s
  head_bytes (Ok k) r n e p =
      let x : record_at k s ≡ r = cc in
      let y : record_length k ≡ n = cc in
      ap bytes_of (sym x) ∙ kind-bytes k (sym e) ∙ ap (λ (m : ℕ). take m s) y
  head_bytes (Err x) r n e p = let z : ◌≡◌ {A = ℕ} 0 1 = cc in let w : ⊥ = omega arith in absurd w

  pub write-back : (r : Record) (n : ℕ) → decode_of s ≡ Whole r n → bytes_of r ≡ take n s
  write-back r n p = head_bytes (head_of s) r n refl p
