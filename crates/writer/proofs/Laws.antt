-- Laws of bytes that are put. Assumes nothing.
use Prim.Native.Nat.{ℕ, ◌%◌, ◌<◌}
use native.Mathlib.Omega.{arith}
use mathlib.Core.Path.{◌≡◌, refl, sym, ap, ◌∙◌}
use mathlib.Core.List.{List, [], ◌∷◌, ◌++◌, append_assoc, append-nil}
use mathlib.Core.Bool.{Bool, true, false, ◌&&◌}
use lib.ListN.{length}
use lib.Dec.{leb}
use lib.IntN.{ℤ, pos, negsuc}
use lib.Signed.{mag}
use lib.Ieee.{Float, binary64, to_bits}
use Rattle.facts.proofs.Truth.{each}
use Rattle.real.specs.F64.{finite}
use Rattle.session.specs.declared.record.Record.{Record}
use Rattle.session.specs.declared.record.Record.TheVariants as R
use Rattle.field.specs.Bytes.{bytes_le, bits_of, short_bits}
use Rattle.session.specs.Limits.{time_allowed}
use Rattle.session.specs.Kinds.{kind_number, record_length, top_of}
use Rattle.session.specs.Layout.{kind_in, vehicle_in, byte_in, time_in, numbers_in, all_finite, number_bytes, bytes_of}
use Rattle.session.specs.Offset.{offset_bytes}
use Rattle.session.specs.Decode.{allowed_in}
use Rattle.writer.specs.Write.{rest_bytes}

-- the bits of numbers, one behind the other
abbrev pub eight : Float → List ℕ
eight x = bytes_le 8 (to_bits binary64 x)

pub two-numbers : (x y : Float) → number_bytes (x ∷ y ∷ []) ≡ eight x ++ eight y
unfolding number_bytes
two-numbers x y = ap (λ (l : List ℕ). eight x ++ l) (append-nil (eight y))

pub three-numbers : (x y z : Float) → number_bytes (x ∷ y ∷ z ∷ []) ≡ eight x ++ eight y ++ eight z
unfolding number_bytes
three-numbers x y z =
    ap (λ (l : List ℕ). eight x ++ (eight y ++ l)) (append-nil (eight z)) ∙ sym (append_assoc (eight x) (eight y) (eight z))

pub more_numbers : (xs ys : List Float) → number_bytes (xs ++ ys) ≡ number_bytes xs ++ number_bytes ys
unfolding number_bytes
more_numbers [] ys = refl
more_numbers (x ∷ xs) ys = ap (λ (l : List ℕ). eight x ++ l) (more_numbers xs ys) ∙ sym (append_assoc (eight x) (number_bytes xs) (number_bytes ys))

-- tests
and_assoc : (a b c : Bool) → a && (b && c) ≡ a && b && c
and_assoc true b c = refl
and_assoc false b c = refl

pub all_append : (xs ys : List Float) → all_finite (xs ++ ys) ≡ all_finite xs && all_finite ys
unfolding all_finite
all_append [] ys = refl
all_append (x ∷ xs) ys = ap (λ (b : Bool). finite x && b) (all_append xs ys) ∙ and_assoc (finite x) (all_finite xs) (all_finite ys)

-- a byte that is no body is 0
byte-same : (r : Record) → leb (byte_in r) (top_of (kind_in r)) ≡ leb (byte_in r) 1
byte-same (R.State r) = refl
byte-same (R.Burn r) = refl
byte-same (R.Mark r) = refl

pub allowed-by : (r : Record) {v b t f : Bool} → leb (vehicle_in r) 1 ≡ v → leb (byte_in r) 1 ≡ b → time_allowed (time_in r) ≡ t → all_finite (numbers_in r) ≡ f
    → allowed_in r ≡ v && b && t && f
allowed-by r {v} {b} {t} {f} a c d e =
    ap (λ (x : Bool). x && leb (byte_in r) (top_of (kind_in r)) && time_allowed (time_in r) && all_finite (numbers_in r)) a
    ∙ ap (λ (x : Bool). v && x && time_allowed (time_in r) && all_finite (numbers_in r)) (byte-same r ∙ c)
    ∙ ap (λ (x : Bool). v && b && x && all_finite (numbers_in r)) d
    ∙ ap (λ (x : Bool). v && b && t && x) e

-- the last 16 of the 64 bits of a small number
pub short-own : (z : ℤ) → mag z < 32768 → bits_of z % 65536 ≡ short_bits z
short-own (pos n) h = omega arith
short-own (negsuc n) h = omega arith

-- the bytes of an offset's record, from the kind on
pub offset-rest : (n : ℕ) → bytes_le 2 8 ++ (bytes_le 2 4 ++ bytes_le 2 n ++ bytes_le 2 0) ≡ bytes_le 2 8 ++ bytes_le 2 4 ++ bytes_le 2 n ++ bytes_le 2 0
unfolding bytes_le
offset-rest n = refl

pub offset-length : (z : ℤ) → length (offset_bytes z) ≡ 8
unfolding bytes_le
offset-length z = refl

pub allowed-finite : (r : Record) → allowed_in r ≡ true → all_finite (numbers_in r) ≡ true
allowed-finite r h = (each (leb (vehicle_in r) 1 && leb (byte_in r) (top_of (kind_in r)) && time_allowed (time_in r)) (all_finite (numbers_in r)) h).1

-- the bytes of a record, from those of its header's parts
pub rest-length : (k v b t : ℕ) → length (rest_bytes k v b t) ≡ 12
unfolding bytes_le
rest-length k v b t = refl

parts : (l k v b t : ℕ) (p : List ℕ) → v < 256 → b < 256
    → bytes_le 2 l ++ (rest_bytes k v b t ++ p) ≡ bytes_le 2 l ++ bytes_le 2 k ++ (v ∷ b ∷ bytes_le 8 t) ++ p
unfolding bytes_le
parts l k v b t p h g =
    let x : v % 256 ≡ v = omega arith in
    let y : b % 256 ≡ b = omega arith in
    ap (λ (n : ℕ). bytes_le 2 l ++ (bytes_le 2 k ++ ((n ∷ (b % 256) ∷ bytes_le 8 t) ++ p))) x
    ∙ ap (λ (n : ℕ). bytes_le 2 l ++ (bytes_le 2 k ++ ((v ∷ n ∷ bytes_le 8 t) ++ p))) y

pub record-bytes : (r : Record) {l k v b t : ℕ} → l ≡ record_length (kind_in r) → k ≡ kind_number (kind_in r) → v ≡ vehicle_in r → b ≡ byte_in r → t ≡ bits_of (time_in r)
    → v < 256 → b < 256 → bytes_le 2 l ++ (rest_bytes k v b t ++ number_bytes (numbers_in r)) ≡ bytes_of r
record-bytes r {l} {k} {v} {b} {t} el ek ev eb et h g =
    parts l k v b t (number_bytes (numbers_in r)) h g
    ∙ cc (el, ek, ev, eb, et)
