-- No refusal of the constant-height burn has the number 0, which says that there is an answer. Assumes nothing.
use Rattle.std.specs.Prelude.{◌≡◌, ℤ, Err, Ok, Result}
use Rattle.std.proofs.Common.{arith}
use Rattle.refusal.specs.declared.Refusal.{Refusal}
use Rattle.refusal.specs.Refusals.{number_of}
use Rattle.refusal.proofs.Numbers.{some_number}
use Rattle.vector.specs.declared.State.{State}
use Rattle.burn.specs.declared.Centre.{Centre}
use Rattle.burn.specs.declared.Burn.{Burn}
use Rattle.burn.specs.Burn.{burn_of}

abbrev pub BurnNumbered : Result Burn Refusal → Type 0
BurnNumbered (Ok b) = Prim.Unit
BurnNumbered (Err n) = number_of n ≡ 0 → ⊥

numbered : (b : Result Burn Refusal) → BurnNumbered b
numbered (Ok b) = tt
numbered (Err n) = λ e. omega (arith, some_number n)

pub burn-numbered : (k : Centre) (a : State) (ta : ℤ) (p : State) (tp t2 t3 : ℤ) → BurnNumbered (burn_of k a ta p tp t2 t3)
burn-numbered k a ta p tp t2 t3 = numbered (burn_of k a ta p tp t2 t3)
