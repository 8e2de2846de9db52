-- What writing a record at a place of a buffer does. Assumes nothing: these are definitions.
use Rattle.refusal.specs.declared.Refusal.{Refusal}
use Rattle.std.specs.Prelude.{ℕ, ◌+◌, List, ◌++◌, Bool, cond, not, ◌&&◌, length, take, drop, leb, eqb, ℤ, Err, Ok, Result}
use Rattle.session.specs.declared.record.Record.{Record}
use Rattle.field.specs.Bytes.{bytes_le}
use Rattle.session.specs.Kinds.{record_length}
use Rattle.session.specs.Layout.{kind_in, bytes_of}
use Rattle.session.specs.Limits.{offset_allowed}
use Rattle.session.specs.Offset.{offset_bytes}
use Rattle.session.specs.Decode.{allowed_in}

-- n bytes from `at` on lie within the buffer, and within the 65,536 bytes of a session
abbrev pub has_room : ℕ → ℕ → ℕ → Bool
has_room at n size = leb (at + n) size && leb (at + n) 65536

-- what is answered for n bytes that may be written or not: 14, then 15, else the place behind them
abbrev pub written_for : Bool → List ℕ → ℕ → ℕ → Result ℕ Refusal
written_for may d at n = cond (not may) (Err Refusal.NotAllowed) (cond (not (has_room at n (length d))) (Err Refusal.NoRoom) (Ok (at + n)))

-- refused, the buffer is as it was; else the n bytes x stand at their place and all else as it was
abbrev pub left : Bool → List ℕ → ℕ → ℕ → List ℕ → List ℕ
left may d at n x = cond (not may) d (cond (not (has_room at n (length d))) d (take at d ++ (x ++ drop (at + n) d)))

-- a header from the kind on, of the kind's number, the vehicle, the byte and the bits of the time
abbrev pub rest_bytes : ℕ → ℕ → ℕ → ℕ → List ℕ
rest_bytes k v b t = bytes_le 2 k ++ bytes_le 1 v ++ bytes_le 1 b ++ bytes_le 8 t

-- the place behind a record
abbrev pub place_behind : ℕ → Record → ℕ
place_behind at r = at + record_length (kind_in r)

-- a record of the table: 14 as in reading
abbrev pub written_of : List ℕ → ℕ → Record → Result ℕ Refusal
written_of d at r = written_for (allowed_in r) d at (record_length (kind_in r))

abbrev pub buffer_of : List ℕ → ℕ → Record → List ℕ
buffer_of d at r = left (allowed_in r) d at (record_length (kind_in r)) (bytes_of r)

-- the offset's record: 14 unless it is first and the offset allowed
abbrev pub offset_may : ℕ → ℤ → Bool
offset_may at z = eqb at 0 && offset_allowed z

abbrev pub offset_written : List ℕ → ℕ → ℤ → Result ℕ Refusal
offset_written d at z = written_for (offset_may at z) d at 8

abbrev pub offset_buffer : List ℕ → ℕ → ℤ → List ℕ
offset_buffer d at z = left (offset_may at z) d at 8 (offset_bytes z)
