-- Short or not, a kind or none, and then the line. Assumes nothing.
use Prim.Native.Nat.{ℕ}
use mathlib.Core.Path.{refl, ◌∙◌}
use mathlib.Core.List.{[], ◌∷◌}
use lib.ListN.{get_or}
use lib.Ieee.{nan, of_bits, binary64}
use mir.Syntax.{w16, w64}
use mir.Facts.{to_z-of_z}
use borrow.Author.Tests.{lt-leb, le-leb}
use Rattle.lines.specs.Lines.{line_room}
use Rattle.library_records.specs.Records.{kind_from}
use Rattle.library_lines.specs.Listing.{record_line, record_line_told}
use Rattle.lent.proofs.Gives.{left-wholes, short-wholes, enough-wholes}
use Rattle.library_records.proofs.Laws.{short-bytes, left-bytes}
use Rattle.library_lines.proofs.Laws.{told-by-number, line-bytes, line-of}
use Rattle.library_lines.proofs.cabin_record_line.Goals as goal

pub returns-then-whole-lt1 : goal.returns-then-whole-lt1
returns-then-whole-lt1 c = rw (lt-leb _ _ c.if-whole-lt1.true) (short-wholes _, short-bytes _ _ _)

pub returns-then-kind-lt1 : goal.returns-then-kind-lt1
unfolding record_line_told
returns-then-kind-lt1 c = rw (le-leb _ _ c.if-whole-lt1.false, lt-leb _ _ c.if-kind-lt1.true) (enough-wholes (left-wholes refl), left-bytes _ _ _)

pub returns-then-kind-gt3 : goal.returns-then-kind-gt3
unfolding record_line_told
returns-then-kind-gt3 c = rw (le-leb _ _ c.if-whole-lt1.false, le-leb _ _ c.if-kind-lt1.false, lt-leb _ _ c.if-kind-gt3.true) (enough-wholes (left-wholes refl), left-bytes _ _ _)

pub returns : goal.returns
unfolding record_line_told
returns c =
    let a = c.args in
    let m = to_z-of_z {w = w64} {z = c.args.time} c.ranges.time in
    let o = to_z-of_z {w = w16} {z = c.args.offset} c.ranges.offset in
    let t = line-of (kind_from a.kind) a.vehicle 0 a.time (λ (i : ℕ). get_or (of_bits binary64 0 ∷ []) i nan) a.offset in
    let g = rw (c.record_from-r.ensures, m, o, t) at c.record_line.ensures in
    rw (le-leb _ _ c.if-whole-lt1.false, le-leb _ _ c.if-kind-lt1.false, le-leb _ _ c.if-kind-gt3.false)
    (rw (g.answer, le-leb _ _ c.if-whole-lt1.false) at (told-by-number _ c.record_line.result c.by_number.ensures c.give_made.ensures), g.buffer ∙ line-bytes line_room (record_line a.kind a.vehicle a.time a.offset) a.line.now)
