-- The lines of every record fit 512 bytes. Assumes nothing.
use Rattle.refusal.specs.Refusals.{number_of}
use Prim.Native.Nat.{ℕ, ◌+◌, ◌*◌, ◌≤◌}
use native.Mathlib.Omega.{arith}
use mathlib.Core.List.{List}
use lib.ListN.{length, length-append}
use lib.Dec.{lit≤}
use lib.IntN.{ℤ}
use lib.Ieee.{Float}
use Rattle.session.proofs.Numbers.{numbers-few}
use Rattle.text.specs.Pieces.{concat}
use Rattle.text.proofs.Decimals.{at_most}
use Rattle.text.proofs.Signs.{signed-short}
use Rattle.text.proofs.Lays.{size, concat-append}
use Rattle.columns.proofs.RowLaws.{row-short, end_short}
use Rattle.session.specs.declared.record.Kind.{Kind}
use Rattle.session.specs.declared.record.Record.{Record}
use Rattle.session.specs.declared.record.Record.TheVariants as R
use Rattle.session.specs.declared.Reading.{Reading}
use Rattle.session.specs.declared.Reading.TheVariants as A
use Rattle.session.specs.Layout.{kind_in, vehicle_in, time_in, numbers_in}
use Rattle.lines.specs.Days.{local_of, day_of, cs_of}
use Rattle.lines.proofs.Sizes.{name-short}
use Rattle.lines.specs.Lines.{refused_pieces}
use Rattle.script.specs.Script.{script_room, day_pieces, who_pieces, head_pieces, body_pieces, front_pieces, back_pieces, middle, record_pieces, offset_pieces, pieces_of}

day-most : (t : ℤ) → size (day_pieces t) ≤ 53
unfolding concat day_pieces
day-most t = simp length-append (omega (arith, signed-short (day_of t), at_most 20 (cs_of t)))

who-most : (k : Kind) (v : ℕ) → size (who_pieces k v) ≤ 37
unfolding concat who_pieces
who-most k v = simp length-append (omega (arith, name-short k, at_most 20 v))

head-most : (k : Kind) (t : ℤ) (v : ℕ) → size (head_pieces k t v) ≤ 48
unfolding concat head_pieces
head-most k t v = simp length-append (omega (arith, name-short k, signed-short t, at_most 20 v))

body-most : (b : ℕ) → size (body_pieces b) ≤ 21
unfolding concat body_pieces
body-most b = simp length-append (omega (arith, at_most 20 b))

middle-most : (r : Record) → size (middle r) ≤ 21
unfolding concat
middle-most (R.State r) = body-most r.body
middle-most (R.Burn r) = lit≤ tt
middle-most (R.Mark r) = lit≤ tt

front-most : (t o : ℤ) (k : Kind) (v : ℕ) (xs : List Float) → size (front_pieces t o k v xs) ≤ 139 + 22 * length xs
unfolding concat front_pieces
front-most t o k v xs =
    simp (concat-append, length-append) (omega (arith, day-most (local_of t o), who-most k v, row-short xs, head-most k t v))

back-most : (xs : List Float) → size (back_pieces xs) ≤ 18 * length xs + 1
unfolding concat back_pieces
back-most xs = omega (arith, end_short xs)

record-most : (o : ℤ) (r : Record) → size (record_pieces o r) ≤ script_room
record-most o r =
    let xs = numbers_in r in
    simp (concat-append, length-append)
    (omega (arith, front-most (time_in r) o (kind_in r) (vehicle_in r) xs, middle-most r, back-most xs, numbers-few r))

pub all-fit-room : (r : Reading) → size (pieces_of r) ≤ script_room
unfolding concat offset_pieces refused_pieces
all-fit-room (A.Record r p) = record-most p.offset r
all-fit-room (A.Offset p) = simp length-append (omega (arith, signed-short p.offset))
all-fit-room A.End = lit≤ tt
all-fit-room (A.Refused n p) = simp length-append (omega (arith, at_most 20 (number_of n), at_most 20 p.at))
