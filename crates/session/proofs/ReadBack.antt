-- Decoding the bytes of an allowed record gives the record, whatever bytes stand behind them: once over the kind. Assumes nothing.
use Rattle.std.specs.Prelude.{Err, Ok, Option, Result}
use Rattle.refusal.specs.declared.Refusal.{Refusal}
use Prim.Native.Nat.{ℕ, zero, suc, ◌+◌, ◌*◌, ◌≤◌, ◌<◌}
use native.Mathlib.Nat.{zero-add}
use native.Mathlib.Numerals.{add-one}
use native.Mathlib.Omega.{arith}
use mathlib.Core.Path.{◌≡◌, refl, sym, ap, ◌∙◌}
use mathlib.Core.List.{List, [], ◌∷◌, ◌++◌}
use mathlib.Core.Bool.{Bool, true, cond, not}
use lib.ListN.{length, get_or, take, drop, length-append}
use lib.Seq.{drop-drop, drop-cons, drop-length}
use lib.Dec.{ltb, lit<}
use lib.IntN.{ℤ}
use lib.Ieee.{Float, binary64, to_bits, of_bits}
use lib.Ieee.Bits.{of_bits-to_bits, to_bits-lt}
use mir.Syntax.{w64}
use mir.Val.{SFits, to_z}
use mir.Facts.{to_z-of_z, Fits-of_z}
use borrow.Author.Tests.{le-ltb, eq-eqb}
use Rattle.real.specs.F64.{f0}
use Rattle.session.specs.declared.record.Kind.{Kind}
use Rattle.session.specs.declared.record.Kind.TheVariants.{State, Burn, Mark}
use Rattle.session.specs.declared.record.Record.{Record}
use Rattle.session.specs.declared.record.Record.TheVariants as R
use Rattle.session.specs.declared.record.Decoded.TheVariants.{Whole}
use Rattle.field.specs.Bytes.{le, field, bytes_le, bits_of}
use Rattle.session.specs.Kinds.{kind_number, record_length, count_of, kind_of}
use Rattle.session.specs.Layout.{vehicle_at, byte_at, time_at, number_at, numbers_from, record_with, record_at, kind_in, vehicle_in, byte_in, time_in, numbers_in, header_bytes, number_bytes, bytes_of}
use Rattle.session.specs.Decode.{allowed, allowed_at, allowed_in, judged, head_of, decoded, decode_of, AllFit, Held}
use Rattle.field.proofs.Bytes.{le_bytes, bytes-length}
use Rattle.session.proofs.Table.{length-law, kind-back, length-word, number_word}

-- number i of those written
number-back : (xs : List Float) (i : ℕ) (rest : List ℕ) → i < length xs → AllFit xs
    → of_bits binary64 (le (take 8 (drop (8 * i) (number_bytes xs ++ rest)))) ≡ get_or xs i f0
unfolding number_bytes bytes_le
number-back [] i rest h a = let z : ⊥ = omega arith in absurd z
number-back (x ∷ xs) zero rest h a =
    ap (of_bits binary64) (le_bytes 8 (to_bits binary64 x) (to_bits-lt binary64 x a.0)) ∙ of_bits-to_bits binary64 x a.0
number-back (x ∷ xs) (suc i) rest h a =
    let e : 8 * suc i ≡ 8 + 8 * i = omega arith in
    let l = number_bytes (x ∷ xs) ++ rest in
    ap (λ (n : ℕ). of_bits binary64 (le (take 8 (drop n l)))) e
    ∙ ap (λ (z : List ℕ). of_bits binary64 (le (take 8 z))) (sym (drop-drop (8 * i) 8 l))
    ∙ number-back xs i rest (omega arith) a.1

pub numbers-length : (xs : List Float) → length (number_bytes xs) ≡ 8 * length xs
unfolding number_bytes
numbers-length [] = refl
numbers-length (x ∷ xs) =
    length-append (bytes_le 8 (to_bits binary64 x)) (number_bytes xs)
    ∙ omega (arith, bytes-length 8 (to_bits binary64 x), numbers-length xs)

-- a record has no other numbers than its kind's
with-same : (k : Kind) (v b : ℕ) (t : ℤ) (f g : ℕ → Float) → ((i : ℕ) → i < count_of k → f i ≡ g i)
    → record_with k v b t f ≡ record_with k v b t g
with-same State v b t f g e =
    cc (e 0 (lit< tt), e 1 (lit< tt), e 2 (lit< tt), e 3 (lit< tt), e 4 (lit< tt), e 5 (lit< tt))
with-same Burn v b t f g e = cc (e 0 (lit< tt), e 1 (lit< tt), e 2 (lit< tt))
with-same Mark v b t f g e = cc (e 0 (lit< tt), e 1 (lit< tt))

-- a record is what its fields make
with-own : (r : Record) → record_with (kind_in r) (vehicle_in r) (byte_in r) (time_in r) (λ (i : ℕ). get_or (numbers_in r) i f0) ≡ r
with-own (R.State r) = refl
with-own (R.Burn r) = refl
with-own (R.Mark r) = refl

pub count-own : (r : Record) → length (numbers_in r) ≡ count_of (kind_in r)
count-own (R.State r) = refl
count-own (R.Burn r) = refl
count-own (R.Mark r) = refl

-- a record of any kind, by its fields
module _ (k : Kind) (v b : ℕ) (t : ℤ) (xs : List Float) (rest : List ℕ)
    (count : length xs ≡ count_of k) (time : SFits w64 t) (fit : AllFit xs) where
  s : List ℕ
  unfolding bytes_le number_bytes
  s = header_bytes k v b t ++ number_bytes xs ++ rest

  length_back : field 0 2 s ≡ record_length k
  unfolding bytes_le s
  length_back = le_bytes 2 (record_length k) (length-word k)

  number-back-2 : field 2 2 s ≡ kind_number k
  unfolding bytes_le s
  number-back-2 = le_bytes 2 (kind_number k) (number_word k)

  vehicle-back : vehicle_at s ≡ v
  unfolding bytes_le s
  vehicle-back = refl

  byte-back : byte_at s ≡ b
  unfolding bytes_le s
  byte-back = refl

  time-back : time_at s ≡ t
  unfolding bytes_le s
  time-back = ap (to_z w64) (le_bytes 8 (bits_of t) (Fits-of_z {w = w64} {z = t} time).fits) ∙ to_z-of_z {w = w64} {z = t} time

  behind : drop 14 s ≡ number_bytes xs ++ rest
  unfolding bytes_le s
  behind = refl

  numbers-at : (i : ℕ) → i < length xs → number_at s i ≡ get_or xs i f0
  numbers-at i h =
      ap (λ (z : List ℕ). of_bits binary64 (le (take 8 z))) (sym (drop-drop (8 * i) 14 s) ∙ ap (drop (8 * i)) behind)
      ∙ number-back xs i rest h fit

  size_back : record_length k ≤ length s
  unfolding bytes_le s
  size_back = omega (arith, length-append (number_bytes xs) rest, numbers-length xs, length-law k)

  numbers-back : (j n : ℕ) → j + n ≡ length xs → numbers_from j n s ≡ drop j xs
  unfolding numbers_from
  numbers-back j zero e = let z : j ≡ length xs = omega arith in sym (ap (λ (n : ℕ). drop n xs) z ∙ drop-length xs)
  numbers-back j (suc n) e =
      let h : j < length xs = omega arith in
      ap (λ (x : Float). x ∷ numbers_from (j + 1) n s) (numbers-at j h)
      ∙ ap (λ (l : List Float). get_or xs j f0 ∷ l) (numbers-back (j + 1) n (omega arith) ∙ rw add-one refl)
      ∙ sym (drop-cons xs j f0 h)

  allowed-back : allowed_at k s ≡ allowed k v b t xs
  allowed-back = cc (vehicle-back, byte-back, time-back, numbers-back 0 (count_of k) (zero-add (count_of k) ∙ sym count))

  record-back : record_at k s ≡ record_with k v b t (λ (i : ℕ). get_or xs i f0)
  record-back =
      ap (λ (x : ℕ). record_with k x (byte_at s) (time_at s) (number_at s)) vehicle-back
      ∙ ap (λ (x : ℕ). record_with k v x (time_at s) (number_at s)) byte-back
      ∙ ap (λ (x : ℤ). record_with k v b x (number_at s)) time-back
      ∙ with-same k v b t (number_at s) (λ (i : ℕ). get_or xs i f0) (λ i h. numbers-at i (omega arith))

  head-back : allowed k v b t xs ≡ true → head_of s ≡ Ok k
  head-back a =
      let four : 4 ≤ record_length k = omega (arith, length-law k) in
      ap (λ (q : Bool). cond q (Err Refusal.CutShort) (cond (ltb (field 0 2 s) 4) (Err Refusal.WrongLength) (judged (kind_of (field 2 2 s)) s))) (le-ltb (length s) 4 (omega (arith, size_back)))
      ∙ ap (λ (q : Bool). cond q (Err Refusal.WrongLength) (judged (kind_of (field 2 2 s)) s)) (le-ltb (field 0 2 s) 4 (omega (arith, length_back)))
      ∙ ap (λ (f : Option Kind). judged f s) (ap kind_of number-back-2 ∙ kind-back k)
      ∙ ap (λ (q : Bool). cond (not q) (Err Refusal.WrongLength) (cond (ltb (length s) (record_length k)) (Err Refusal.CutShort) (cond (allowed_at k s) (Ok k) (Err Refusal.NotAllowed)))) (eq-eqb _ _ length_back)
      ∙ ap (λ (q : Bool). cond q (Err Refusal.CutShort) (cond (allowed_at k s) (Ok k) (Err Refusal.NotAllowed))) (le-ltb (length s) (record_length k) size_back)
      ∙ ap (λ (q : Bool). cond q (Ok k) (Err Refusal.NotAllowed)) (allowed-back ∙ a)

  fields_back : allowed k v b t xs ≡ true → decode_of s ≡ Whole (record_with k v b t (λ (i : ℕ). get_or xs i f0)) (record_length k)
  fields_back a = ap (λ (h : Result Kind Refusal). decoded h s) (head-back a) ∙ ap (λ (r : Record). Whole r (record_length k)) record-back

-- the bytes of a record, and any bytes behind them
pub read_back : (r : Record) (rest : List ℕ) → Held r → allowed_in r ≡ true
    → decode_of (bytes_of r ++ rest) ≡ Whole r (record_length (kind_in r))
unfolding s
read_back r rest h a =
    fields_back (kind_in r) (vehicle_in r) (byte_in r) (time_in r) (numbers_in r) rest (count-own r) h.time h.numbers a
    ∙ ap (λ (x : Record). Whole x (record_length (kind_in r))) (with-own r)

-- how many they are
pub bytes-of-length : (r : Record) → length (bytes_of r) ≡ record_length (kind_in r)
unfolding bytes_le
bytes-of-length r = omega (arith, numbers-length (numbers_in r), count-own r, length-law (kind_in r))
