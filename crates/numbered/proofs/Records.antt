-- A session read and written: 0 is returned where there is an answer, and nowhere else. Assumes nothing.
use Prim.Native.Nat.{ℕ}
use mathlib.Core.List.{List}
use lib.IntN.{ℤ}
use lib.Ieee.{Float}
use Rattle.session.specs.declared.Place.{Place}
use Rattle.library_records.specs.Records.{read_in, write_in, offset_in}
use Rattle.numbered.specs.Zero.{ZeroAnswers}
use Rattle.numbered.proofs.Refusals.{zero-answers}

pub write-answers : (d : List ℕ) (at k v b : ℕ) (t : ℤ) (xs : List Float) (w : List ℕ) → ZeroAnswers (write_in d at k v b t xs w)
write-answers d at k v b t xs w = zero-answers _

pub write-offset-answers : (d : List ℕ) (at : ℕ) (z : ℤ) (w : List ℕ) → ZeroAnswers (offset_in d at z w)
write-offset-answers d at z w = zero-answers _

pub read-answers : (s : List ℕ) (p : Place) (d : List Float) (w : List ℕ) → ZeroAnswers (read_in s p d w)
read-answers s p d w = zero-answers _
