-- Whoever puts the bytes that are left behind those that are put gets the whole. Assumes nothing.
use Prim.Native.Nat.{ℕ, ◌-◌, ◌≤◌}
use mathlib.Core.List.{List}
use mathlib.Core.Path.{◌≡◌}
use lib.ListN.{length}
use Rattle.field.specs.Bytes.{bytes_le}
use Rattle.text.specs.Text.{Stands}
use Rattle.field.proofs.writing.put_le.Given as goal

abbrev pub invariant-loop-i : goal.invariant-loop-i
invariant-loop-i l =
    (l.end ≤ length l.buf) × (length l.buf ≡ length l.initial.buf)
    × ((f : List ℕ) (r : ℕ) → Stands l.buf l.i (bytes_le (l.end - l.i) l.rest) f r → Stands l.initial.buf l.at (bytes_le l.w l.n) f r)
