-- Reading and writing records as a number and a case. A whole number that may be below 0 is handed out as its 64 bits.
-- Assumes nothing: these are definitions.
use Rattle.refusal.specs.declared.Refusal.{Refusal}
use Rattle.std.specs.Prelude.{ℕ, ◌+◌, cond, ◌&&◌, List, [], ◌∷◌, ◌++◌, leb, eqb, length, take, drop, get_or, ℤ, Float, Err, Ok, Result}
use Rattle.std.specs.Float.{nan}
use Rattle.field.specs.Bytes.{bits_of}
use Rattle.session.specs.declared.record.Kind.{Kind}
use Rattle.session.specs.declared.record.Kind.TheVariants.{State, Burn, Mark}
use Rattle.session.specs.declared.record.Record.{Record}
use Rattle.session.specs.declared.Place.{Place}
use Rattle.session.specs.declared.Reading.{Reading}
use Rattle.session.specs.declared.Reading.TheVariants as R
use Rattle.session.specs.Kinds.{kind_number, record_length}
use Rattle.session.specs.Layout.{record_with, kind_in, vehicle_in, byte_in, time_in, numbers_in, bytes_of}
use Rattle.session.specs.Read.{read_at}
use Rattle.writer.specs.Write.{written_of, offset_written}
use Rattle.lent.specs.Given.{Told, answer, refused, room_for}

-- ---- reading: the kind, 0 for the end; the place and the local offset behind it; the vehicle, the byte, the time; the numbers

unfoldable pub read_told : Reading → Told
read_told (R.Record r p) =
    answer (numbers_in r) (kind_number (kind_in r) ∷ p.at ∷ bits_of p.offset ∷ vehicle_in r ∷ byte_in r ∷ bits_of (time_in r) ∷ [])
read_told (R.Offset p) = answer [] (4 ∷ p.at ∷ bits_of p.offset ∷ [])
read_told R.End = answer [] (0 ∷ [])
read_told (R.Refused n p) = refused n

abbrev pub read_in : List ℕ → Place → List Float → List ℕ → Told
read_in s p d w = room_for (leb 6 (length d) && leb 6 (length w)) (read_told (read_at s p))

-- ---- a record of its fields

-- the kind with this number; any other than 1 and 2 counts as a mark, and is refused before
unfoldable pub kind_from : ℕ → Kind
kind_from k = cond (eqb k 1) State (cond (eqb k 2) Burn Mark)

-- how many numbers it has
unfoldable pub count_from : ℕ → ℕ
count_from k = cond (eqb k 1) 6 (cond (eqb k 2) 3 2)

abbrev pub record_from : ℕ → ℕ → ℕ → ℤ → List Float → Record
record_from k v b t xs = record_with (kind_from k) v b t (λ (i : ℕ). get_or xs i nan)

-- ---- writing: the place behind it

unfoldable pub written_told : Result ℕ Refusal → Told
written_told (Ok n) = answer [] (n ∷ [])
written_told (Err n) = refused n

-- 13 for a kind that is none of the three, then 15 for too few numbers
unfoldable pub write_told : List ℕ → ℕ → ℕ → ℕ → ℕ → ℤ → List Float → Told
write_told d at k v b t xs =
    cond (leb 1 k && leb k 3)
    (room_for (leb (count_from k) (length xs)) (written_told (written_of d at (record_from k v b t xs))))
    (refused Refusal.UnknownKind)

abbrev pub write_in : List ℕ → ℕ → ℕ → ℕ → ℕ → ℤ → List Float → List ℕ → Told
write_in d at k v b t xs w = room_for (leb 1 (length w)) (write_told d at k v b t xs)

-- the n bytes x stand at their place, and all else as it was
abbrev pub written : List ℕ → ℕ → ℕ → List ℕ → List ℕ
written d at n x = take at d ++ (x ++ drop (at + n) d)

abbrev pub record_written : List ℕ → ℕ → Record → List ℕ
record_written d at r = written d at (record_length (kind_in r)) (bytes_of r)

-- ---- the local offset's record

abbrev pub offset_in : List ℕ → ℕ → ℤ → List ℕ → Told
offset_in d at z w = room_for (leb 1 (length w)) (written_told (offset_written d at z))
