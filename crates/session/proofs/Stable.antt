-- More bytes behind a record that is settled change nothing: what a reader of parts rests on. Assumes nothing.
use Rattle.std.specs.Prelude.{Err, None, Ok, Option, Result, Some}
use Rattle.refusal.specs.declared.Refusal.{Refusal}
use Prim.Native.Nat.{ℕ, zero, suc, ◌+◌, ◌*◌, ◌≤◌, ◌<◌}
use native.Mathlib.Omega.{arith}
use mathlib.Core.Path.{◌≡◌, refl, sym, ap, ◌∙◌}
use mathlib.Core.List.{List, ◌∷◌, ◌++◌}
use mathlib.Core.Bool.{Bool, true, false, cond, not}
use lib.ListN.{length, get_or, take, drop, length-append, length-drop, get_or-append}
use lib.Seq.{take-append-le, drop-append-le}
use lib.Dec.{ltb, eqb}
use lib.Ieee.{Float, of_bits, binary64}
use borrow.Author.Tests.{le-ltb, ltb-false}
use Rattle.session.specs.declared.record.Kind.{Kind}
use Rattle.session.specs.declared.record.Kind.TheVariants.{State, Burn, Mark}
use Rattle.session.specs.declared.record.Record.{Record}
use Rattle.session.specs.declared.record.Decoded.TheVariants.{Whole, Refused}
use Rattle.field.specs.Bytes.{le, field}
use Rattle.session.specs.Layout.{number_at, numbers_from, record_at}
use Rattle.session.specs.Kinds.{kind_of, record_length, count_of}
use Rattle.session.proofs.Table.{length-law}
use Rattle.session.specs.Decode.{allowed_at, judged, head_of, decoded, decode_of}
use Rattle.session.proofs.Heads.{good-head}

module _ (s t : List ℕ) where
  pub field-more : (o w : ℕ) → o + w ≤ length s → field o w (s ++ t) ≡ field o w s
  field-more o w h =
      let a : o ≤ length s = omega arith in
      let b : w ≤ length (drop o s) = simp length-drop (omega arith) in
      ap (λ (l : List ℕ). le (take w l)) (drop-append-le o s t a) ∙ ap le (take-append-le w (drop o s) t b)

  number_more : (i : ℕ) → 14 + 8 * i + 8 ≤ length s → number_at (s ++ t) i ≡ number_at s i
  number_more i h = ap (of_bits binary64) (field-more (14 + 8 * i) 8 h)

  numbers_more : (i n : ℕ) → 14 + 8 * (i + n) ≤ length s → numbers_from i n (s ++ t) ≡ numbers_from i n s
  unfolding numbers_from
  numbers_more i zero h = refl
  numbers_more i (suc n) h =
      let a = number_more i (omega arith) in
      let b = numbers_more (i + 1) n (omega arith) in
      ap (λ (x : Float). x ∷ numbers_from (i + 1) n (s ++ t)) a ∙ ap (λ (x : List Float). number_at s i ∷ x) b

  byte_more : (i : ℕ) → i < length s → get_or (s ++ t) i 0 ≡ get_or s i 0
  byte_more i h = get_or-append s t 0 i h

  allowed-more : (k : Kind) → record_length k ≤ length s → allowed_at k (s ++ t) ≡ allowed_at k s
  allowed-more k h =
      let a = byte_more 4 (omega (arith, length-law k)) in
      let b = byte_more 5 (omega (arith, length-law k)) in
      let c = numbers_more 0 (count_of k) (omega (arith, length-law k)) in
      let d = field-more 6 8 (omega (arith, length-law k)) in
      rw (a, b, c, d) refl

  record-more : (k : Kind) → record_length k ≤ length s → record_at k (s ++ t) ≡ record_at k s
  record-more State h = cc (byte_more 4 (omega arith), byte_more 5 (omega arith), field-more 6 8 (omega arith), number_more 0 (omega arith), number_more 1 (omega arith), number_more 2 (omega arith), number_more 3 (omega arith), number_more 4 (omega arith), number_more 5 (omega arith))
  record-more Burn h = cc (byte_more 4 (omega arith), field-more 6 8 (omega arith), number_more 0 (omega arith), number_more 1 (omega arith), number_more 2 (omega arith))
  record-more Mark h = cc (byte_more 4 (omega arith), field-more 6 8 (omega arith), number_more 0 (omega arith), number_more 1 (omega arith))

  longer : (n : ℕ) → n ≤ length s → ltb (length (s ++ t)) n ≡ false
  longer n h = le-ltb (length (s ++ t)) n (simp length-append (omega arith))

  -- by the test of the length, where the record is not cut short
  by_length : (k : Kind) (e b : Bool) → ltb (length s) (record_length k) ≡ b
      → (cond (not e) (Err Refusal.WrongLength) (cond b (Err Refusal.CutShort) (cond (allowed_at k s) (Ok k) (Err Refusal.NotAllowed))) ≡ Err Refusal.CutShort → ⊥)
      → cond (not e) (Err Refusal.WrongLength) (cond (ltb (length (s ++ t)) (record_length k)) (Err Refusal.CutShort) (cond (allowed_at k (s ++ t)) (Ok k) (Err Refusal.NotAllowed)))
      ≡ cond (not e) (Err Refusal.WrongLength) (cond b (Err Refusal.CutShort) (cond (allowed_at k s) (Ok k) (Err Refusal.NotAllowed)))
  by_length k false b q z = refl
  by_length k true true q z = absurd (z refl)
  by_length k true false q z =
      let l = ltb-false (length s) (record_length k) q in
      ap (λ (x : Bool). cond x (Err Refusal.CutShort) (cond (allowed_at k (s ++ t)) (Ok k) (Err Refusal.NotAllowed))) (longer (record_length k) l)
      ∙ ap (λ (x : Bool). cond x (Ok k) (Err Refusal.NotAllowed)) (allowed-more k l)

  judged-more : (f : Option Kind) → 2 ≤ length s → (judged f s ≡ Err Refusal.CutShort → ⊥) → judged f (s ++ t) ≡ judged f s
  judged-more None h z = refl
  judged-more (Some k) h z =
      ap (λ (n : ℕ). cond (not (eqb n (record_length k))) (Err Refusal.WrongLength) (cond (ltb (length (s ++ t)) (record_length k)) (Err Refusal.CutShort) (cond (allowed_at k (s ++ t)) (Ok k) (Err Refusal.NotAllowed)))) (field-more 0 2 h)
      ∙ by_length k (eqb (field 0 2 s) (record_length k)) (ltb (length s) (record_length k)) refl z

  by_kind : (b : Bool) → 4 ≤ length s → (cond b (Err Refusal.WrongLength) (judged (kind_of (field 2 2 s)) s) ≡ Err Refusal.CutShort → ⊥)
      → cond b (Err Refusal.WrongLength) (judged (kind_of (field 2 2 (s ++ t))) (s ++ t)) ≡ cond b (Err Refusal.WrongLength) (judged (kind_of (field 2 2 s)) s)
  by_kind true h z = refl
  by_kind false h z =
      ap (λ (n : ℕ). judged (kind_of n) (s ++ t)) (field-more 2 2 h) ∙ judged-more (kind_of (field 2 2 s)) (omega arith) z

  by-four : (b : Bool) → ltb (length s) 4 ≡ b → (cond b (Err Refusal.CutShort) (cond (ltb (field 0 2 s) 4) (Err Refusal.WrongLength) (judged (kind_of (field 2 2 s)) s)) ≡ Err Refusal.CutShort → ⊥)
      → head_of (s ++ t) ≡ cond b (Err Refusal.CutShort) (cond (ltb (field 0 2 s) 4) (Err Refusal.WrongLength) (judged (kind_of (field 2 2 s)) s))
  by-four true q z = absurd (z refl)
  by-four false q z =
      let l = ltb-false (length s) 4 q in
      ap (λ (x : Bool). cond x (Err Refusal.CutShort) (cond (ltb (field 0 2 (s ++ t)) 4) (Err Refusal.WrongLength) (judged (kind_of (field 2 2 (s ++ t))) (s ++ t)))) (longer 4 l)
      ∙ ap (λ (n : ℕ). cond (ltb n 4) (Err Refusal.WrongLength) (judged (kind_of (field 2 2 (s ++ t))) (s ++ t))) (field-more 0 2 (omega arith))
      ∙ by_kind (ltb (field 0 2 s) 4) l z

  head_more : (head_of s ≡ Err Refusal.CutShort → ⊥) → head_of (s ++ t) ≡ head_of s
  head_more z = by-four (ltb (length s) 4) refl z

  by-head : (h : Result Kind Refusal) → h ≡ head_of s → decoded h (s ++ t) ≡ decoded h s
  by-head (Ok k) e = ap (λ (r : Record). Whole r (record_length k)) (record-more k (good-head s k (sym e)).size)
  by-head (Err x) e = refl

  pub stable : (decode_of s ≡ Refused Refusal.CutShort → ⊥) → decode_of (s ++ t) ≡ decode_of s
  stable z =
      ap (λ (h : Result Kind Refusal). decoded h (s ++ t)) (head_more (λ e. z (ap (λ (h : Result Kind Refusal). decoded h s) e)))
      ∙ by-head (head_of s) refl
