-- What a reader's standing gives leaves the numbers as they were. Assumes nothing.
use Prim.Native.Nat.{ℕ}
use mathlib.Core.Path.{◌≡◌, refl}
use mathlib.Core.List.{List}
use lib.Ieee.{Float}
use Rattle.stream.specs.declared.Standing.{Standing}
use Rattle.stream.specs.declared.Standing.TheVariants.{Open, Refused, Ended}
use Rattle.lent.specs.Given.{numbers_after, Given, GivenWholes}
use Rattle.library_stream.specs.Parts.{standing_told}

kept : (s : Standing) (d : List Float) → d ≡ numbers_after (standing_told s) d
unfolding numbers_after standing_told
kept (Open p k) d = refl
kept (Refused n at) d = refl
kept Ended d = refl

pub stands : (s : Standing) {w v : List ℕ} {d : List Float} {r : ℕ} → GivenWholes (standing_told s) w v r → Given (standing_told s) d w d v r
stands s {d = d} g = record { number = g.number; numbers = kept s d; wholes = g.wholes }
