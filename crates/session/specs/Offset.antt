-- The local offset's record, kind 4, and what stands at a place: that record or one of the table. Assumes nothing: these
-- are definitions.
--
--   0 length (2)   2 kind (2)   4 offset in minutes (2)   6 zero (2)
use Rattle.std.specs.Prelude.{ℕ, List, ◌++◌, Bool, cond, not, ◌&&◌, length, ltb, leb, eqb, ℤ}
use Rattle.refusal.specs.declared.Refusal.TheVariants as Refusal
use Rattle.session.specs.declared.record.Decoded.{Decoded}
use Rattle.session.specs.declared.record.Decoded.TheVariants.{Offset, Refused}
use Rattle.field.specs.Bytes.{field, bytes_le, short_of, short_bits}
use Rattle.session.specs.Limits.{offset_allowed}
use Rattle.session.specs.Decode.{decode_of}

-- whether a record is of kind 4
abbrev pub is_offset : List ℕ → Bool
is_offset s = leb 4 (length s) && eqb (field 2 2 s) 4

abbrev pub minutes_at : List ℕ → ℤ
minutes_at s = short_of (field 4 2 s)

-- it is first in its session, its last two bytes are zero, and the offset is allowed: else 14
abbrev pub good_offset : Bool → List ℕ → Bool
good_offset first s = first && eqb (field 6 2 s) 0 && offset_allowed (minutes_at s)

-- its tests in their order
abbrev pub offset_of : Bool → List ℕ → Decoded
offset_of first s =
    cond (not (eqb (field 0 2 s) 8)) (Refused Refusal.WrongLength)
    (cond (ltb (length s) 8) (Refused Refusal.CutShort) (cond (good_offset first s) (Offset (minutes_at s)) (Refused Refusal.NotAllowed)))

-- the record at the front of s, which is the first of its session or not
abbrev pub decode_at : Bool → List ℕ → Decoded
decode_at first s = cond (is_offset s) (offset_of first s) (decode_of s)

-- the bytes of an offset's record
abbrev pub offset_bytes : ℤ → List ℕ
offset_bytes z = bytes_le 2 8 ++ bytes_le 2 4 ++ bytes_le 2 (short_bits z) ++ bytes_le 2 0
