-- A session that comes in parts: 0 is returned where there is an answer, and nowhere else. Assumes nothing.
use Prim.Native.Nat.{ℕ}
use mathlib.Core.List.{List}
use lib.Ieee.{Float}
use Rattle.session.specs.declared.Place.{Place}
use Rattle.library_stream.specs.Parts.{take_in}
use Rattle.numbered.specs.Zero.{ZeroAnswers}
use Rattle.numbered.proofs.Refusals.{zero-answers}

pub take-next-answers : (p : Place) (k : ℕ) (room part : List ℕ) (from : ℕ) (d : List Float) (w : List ℕ) → ZeroAnswers (take_in p k room part from d w)
take-next-answers p k room part from d w = zero-answers _
