-- What one record at the front of some bytes is, and which records are allowed. Assumes nothing: these are definitions.
use Rattle.refusal.specs.declared.Refusal.{Refusal}
use Rattle.std.specs.Prelude.{ℕ, List, [], ◌∷◌, Bool, cond, not, ◌&&◌, length, T, ltb, leb, eqb, ℤ, Float, Err, None, Ok, Option, Result, Some}
use Rattle.std.specs.Float.{binary64}
use Rattle.std.specs.Float.Ieee.{fits}
use Rattle.std.specs.Int.{w64}
use Rattle.std.proofs.Common.{SFits}
use Rattle.session.specs.declared.record.Kind.{Kind}
use Rattle.session.specs.declared.record.Record.{Record}
use Rattle.session.specs.declared.record.Decoded.{Decoded}
use Rattle.session.specs.declared.record.Decoded.TheVariants.{Whole, Refused}
use Rattle.field.specs.Bytes.{field}
use Rattle.session.specs.Kinds.{kind_of, record_length, count_of, top_of}
use Rattle.session.specs.Limits.{time_allowed}
use Rattle.session.specs.Layout.{vehicle_at, byte_at, time_at, numbers_from, all_finite, record_at, kind_in, vehicle_in, byte_in, time_in, numbers_in}

-- what a vehicle, a byte, a time and numbers may be: else 14
abbrev pub allowed : Kind → ℕ → ℕ → ℤ → List Float → Bool
allowed k v b t xs = leb v 1 && leb b (top_of k) && time_allowed t && all_finite xs

abbrev pub allowed_at : Kind → List ℕ → Bool
allowed_at k s = allowed k (vehicle_at s) (byte_at s) (time_at s) (numbers_from 0 (count_of k) s)

abbrev pub allowed_in : Record → Bool
allowed_in r = allowed (kind_in r) (vehicle_in r) (byte_in r) (time_in r) (numbers_in r)

-- the tests in their order: from the length on, and all of them
abbrev pub judged : Option Kind → List ℕ → Result Kind Refusal
judged None s = Err Refusal.UnknownKind
judged (Some k) s =
    cond (not (eqb (field 0 2 s) (record_length k))) (Err Refusal.WrongLength)
    (cond (ltb (length s) (record_length k)) (Err Refusal.CutShort) (cond (allowed_at k s) (Ok k) (Err Refusal.NotAllowed)))

abbrev pub head_of : List ℕ → Result Kind Refusal
head_of s = cond (ltb (length s) 4) (Err Refusal.CutShort) (cond (ltb (field 0 2 s) 4) (Err Refusal.WrongLength) (judged (kind_of (field 2 2 s)) s))

abbrev pub decoded : Result Kind Refusal → List ℕ → Decoded
decoded (Ok k) s = Whole (record_at k s) (record_length k)
decoded (Err n) s = Refused n

abbrev pub decode_of : List ℕ → Decoded
decode_of s = decoded (head_of s) s

-- a record as memory holds it: a time of 64 bits, and numbers of binary64
abbrev pub AllFit : List Float → Type 0
AllFit [] = Unit {0}
AllFit (x ∷ xs) = T (fits binary64 x) × AllFit xs

pub record Held (r : Record) : Type 0 where
  pub time : SFits w64 (time_in r)
  pub numbers : AllFit (numbers_in r)
