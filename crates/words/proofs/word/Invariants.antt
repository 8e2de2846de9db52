-- `word`: at turn i the place is that of the word behind i words.
use Prim.Native.Nat.{◌≤◌}
use mathlib.Core.Path.{◌≡◌}
use lib.ListN.{length, drop}
use Rattle.words.specs.Words.{from_word}
use Rattle.words.proofs.word.Given as goal

abbrev pub invariant-loop-passed : goal.invariant-loop-passed
invariant-loop-passed l = (l.at ≤ length l.s) × (drop l.at l.s ≡ from_word l._passed l.s)
