-- The settings looked up, stored and gone back to: 0 is returned where there is an answer, and nowhere else. Assumes nothing.
use Prim.Native.Nat.{ℕ}
use mathlib.Core.List.{List}
use lib.Ieee.{Float}
use Rattle.settings.specs.declared.allowed.Setting.{Setting}
use Rattle.library_settings.specs.Versions.{look_in, store_in, back_in}
use Rattle.numbered.specs.Zero.{ZeroAnswers}
use Rattle.numbered.proofs.Refusals.{zero-answers}

pub look-up-answers : (used : List ℕ) (k : ℕ) (d : List Float) (w : List ℕ) → ZeroAnswers (look_in used k d w)
look-up-answers used k d w = zero-answers _

pub store-answers : (d : List ℕ) (used : ℕ) (x : Setting) (w : List ℕ) → ZeroAnswers (store_in d used x w)
store-answers d used x w = zero-answers _

pub go-back-answers : (d : List ℕ) (used k : ℕ) (w : List ℕ) → ZeroAnswers (back_in d used k w)
go-back-answers d used k w = zero-answers _
