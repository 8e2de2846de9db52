-- The loop has put all digits but the first i: whoever puts those, the last i of m, gets the whole. The measure is i. Assumes nothing.
use Prim.Native.Nat.{ℕ, ◌+◌, ◌≤◌}
use mathlib.Core.Path.{◌≡◌}
use mathlib.Core.List.{List}
use lib.ListN.{length}
use Rattle.text.specs.Text.{Stands, decimal}
use Rattle.text.proofs.Decimals.{lasts}
use Rattle.text.proofs.put_digits.Given as goal

abbrev pub invariant-loop-i : goal.invariant-loop-i
invariant-loop-i l =
    (length l.buf ≡ length l.initial.buf) × (l.at + l.i ≤ length l.buf)
    × ((f : List ℕ) → Stands l.buf l.at (lasts l.i l.m) f (l.at + l.i) → Stands l.initial.buf l.at (decimal l.n) f (l.at + l.k))
