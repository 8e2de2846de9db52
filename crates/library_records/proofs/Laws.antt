-- What becomes of the buffer, by case; and an answer of whole numbers alone. Assumes nothing.
use Rattle.refusal.specs.declared.Refusal.{Refusal}
use Rattle.std.specs.Prelude.{Err, Ok}
use Rattle.refusal.specs.declared.Refusal.TheVariants as Refusal
use Prim.Native.Nat.{ℕ, ◌+◌}
use mathlib.Core.Path.{◌≡◌, refl}
use mathlib.Core.Bool.{Bool, true, false, cond, not}
use mathlib.Core.List.{List, []}
use lib.IntN.{ℤ}
use lib.ListN.{length}
use lib.Ieee.{Float}
use Rattle.session.specs.declared.record.Record.{Record}
use Rattle.session.specs.Kinds.{record_length}
use Rattle.session.specs.Layout.{kind_in}
use Rattle.session.specs.Offset.{offset_bytes}
use Rattle.session.specs.Decode.{allowed_in}
use Rattle.writer.specs.Write.{has_room, written_of, buffer_of, offset_may, offset_written, offset_buffer}
use Rattle.lent.specs.Given.{Told, answer, refused, room_for, numbers_after, bytes_after, put_in, Given}
use Rattle.lent.proofs.Gives.{Fit, put-wholes}
use Rattle.library_records.specs.Records.{written_told, written, record_written}

-- no numbers, only whole numbers
pub put-none : {zs w v : List ℕ} {d : List Float} → v ≡ put_in zs w → Fit zs w → Given (answer [] zs) d w d v 0
unfolding numbers_after
put-none {zs} q f = let g = put-wholes {xs = []} {zs = zs} q f in record { number = g.number; numbers = refl; wholes = g.wholes }

pub short-bytes : (t : Told) (e d : List ℕ) → d ≡ bytes_after (room_for false t) e d
unfolding room_for bytes_after
short-bytes t e d = refl

pub left-bytes : (n : Refusal) (e d : List ℕ) → d ≡ bytes_after (room_for true (refused n)) e d
unfolding room_for bytes_after
left-bytes n e d = refl

pub few_bytes : (t : Told) (e d : List ℕ) → d ≡ bytes_after (room_for true (room_for false t)) e d
unfolding room_for bytes_after
few_bytes t e d = refl

either : (a b : Bool) (k : ℕ) (x d : List ℕ) → cond a d (cond b d x) ≡ bytes_after (written_told (cond a (Err Refusal.NotAllowed) (cond b (Err Refusal.NoRoom) (Ok k)))) x d
unfolding bytes_after written_told
either true b k x d = refl
either false true k x d = refl
either false false k x d = refl

pub write_bytes : (d : List ℕ) (at : ℕ) (r : Record) → buffer_of d at r ≡ bytes_after (room_for true (room_for true (written_told (written_of d at r)))) (record_written d at r) d
unfolding room_for
write_bytes d at r =
    either (not (allowed_in r)) (not (has_room at (record_length (kind_in r)) (length d))) (at + record_length (kind_in r)) (record_written d at r) d

pub offset_bytes_lem : (d : List ℕ) (at : ℕ) (z : ℤ) → offset_buffer d at z ≡ bytes_after (room_for true (written_told (offset_written d at z))) (written d at 8 (offset_bytes z)) d
unfolding room_for
offset_bytes_lem d at z = either (not (offset_may at z)) (not (has_room at 8 (length d))) (at + 8) (written d at 8 (offset_bytes z)) d
