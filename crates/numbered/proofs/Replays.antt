-- A step of a replay: 0 is returned where there is an answer, and nowhere else. Assumes nothing.
use Prim.Native.Nat.{ℕ}
use mathlib.Core.List.{List}
use lib.IntN.{ℤ}
use lib.Ieee.{Float}
use Rattle.flight.specs.declared.Mu.{Mu}
use Rattle.library_replay.specs.Steps.{step_in}
use Rattle.numbered.specs.Zero.{ZeroAnswers}
use Rattle.numbered.proofs.Refusals.{zero-answers}

pub replay-step-answers : (mu : Mu) (k v b : ℕ) (t : ℤ) (xs d : List Float) (w : List ℕ) → ZeroAnswers (step_in mu k v b t xs d w)
replay-step-answers mu k v b t xs d w = zero-answers _
