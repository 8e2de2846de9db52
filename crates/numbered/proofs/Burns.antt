-- The constant-height burn: 0 is returned where there is an answer, and nowhere else. Assumes nothing.
use Prim.Native.Nat.{ℕ}
use mathlib.Core.List.{List}
use lib.IntN.{ℤ}
use lib.Ieee.{Float}
use Rattle.burn.specs.declared.Centre.{Centre}
use Rattle.library_burn.specs.Burns.{burn_in}
use Rattle.numbered.specs.Zero.{ZeroAnswers}
use Rattle.numbered.proofs.Refusals.{zero-answers}

pub constant-height-answers : (k : Centre) (a : List Float) (ta : ℤ) (p : List Float) (tp t2 t3 : ℤ) (d : List Float) (w : List ℕ)
    → ZeroAnswers (burn_in k a ta p tp t2 t3 d w)
constant-height-answers k a ta p tp t2 t3 d w = zero-answers _
