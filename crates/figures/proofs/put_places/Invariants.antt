-- The loop has put all places but the first i: whoever puts those, the last i of m, gets the whole. Assumes nothing.
use Prim.Native.Nat.{ℕ, ◌+◌, ◌≤◌}
use mathlib.Core.Path.{◌≡◌}
use mathlib.Core.List.{List}
use lib.ListN.{length}
use Rattle.text.specs.Text.{Stands}
use Rattle.figures.specs.Figures.{places}
use Rattle.figures.proofs.put_places.Given as goal

abbrev pub invariant-loop-i : goal.invariant-loop-i
invariant-loop-i l =
    (length l.buf ≡ length l.initial.buf) × (l.at + l.i ≤ length l.buf)
    × ((f : List ℕ) → Stands l.buf l.at (places l.base l.i l.m) f (l.at + l.i) → Stands l.initial.buf l.at (places l.base l.k l.n) f (l.at + l.k))
