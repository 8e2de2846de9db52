-- The loop has put the first i bytes of the text. Assumes nothing.
use Prim.Native.Nat.{◌+◌, ◌≤◌}
use lib.ListN.{length, take}
use Rattle.text.specs.Text.{Stands}
use Rattle.text.proofs.copy.Given as goal

abbrev pub invariant-loop-i : goal.invariant-loop-i
invariant-loop-i l = (l.at + length l.x ≤ length l.initial.buf) × Stands l.initial.buf l.at (take l.i l.x) l.buf (l.at + l.i)
