-- The tests ahead of the advances, in their order. Assumes nothing.
use Rattle.std.specs.Prelude.{Err, Result}
use Rattle.refusal.specs.declared.Refusal.{Refusal}
use mathlib.Core.Path.{◌≡◌, ap, ◌∙◌}
use mathlib.Core.Bool.{Bool, true, false, cond}
use lib.Dec.{ltb}
use lib.IntN.{ℤ}
use Rattle.vector.specs.declared.State.{State}
use Rattle.elapsed.specs.Elapsed.{at_least}
use Rattle.burn.specs.declared.Centre.{Centre}
use Rattle.burn.specs.declared.Burn.{Burn}
use Rattle.burn.specs.Burn.{at_time, from_active, radius_allowed, burn_of}

module _ (k : Centre) (active : State) (ta : ℤ) (passive : State) (tp t2 t3 : ℤ) where
  abbrev rest : Result Burn Refusal
  rest = from_active k (at_time k.mu active ta t2) (at_time k.mu passive tp t2)

  abbrev by : Bool → Bool → Bool → Result Burn Refusal
  by b r t = cond b (Err Refusal.NotAllowed) (cond r (cond t rest (Err Refusal.TooSoon)) (Err Refusal.SettingOutOfRange))

  pub body_refused : ltb 1 k.body ≡ true → burn_of k active ta passive tp t2 t3 ≡ Err Refusal.NotAllowed
  unfolding burn_of
  body_refused h = ap (λ (b : Bool). by b (radius_allowed k.radius) (at_least t2 t3 60000)) h

  pub radius-refused : ltb 1 k.body ≡ false → radius_allowed k.radius ≡ false → burn_of k active ta passive tp t2 t3 ≡ Err Refusal.SettingOutOfRange
  unfolding burn_of
  radius-refused h r =
      ap (λ (b : Bool). by b (radius_allowed k.radius) (at_least t2 t3 60000)) h
      ∙ ap (λ (b : Bool). by false b (at_least t2 t3 60000)) r

  pub time-refused : ltb 1 k.body ≡ false → radius_allowed k.radius ≡ true → at_least t2 t3 60000 ≡ false → burn_of k active ta passive tp t2 t3 ≡ Err Refusal.TooSoon
  unfolding burn_of
  time-refused h r t =
      ap (λ (b : Bool). by b (radius_allowed k.radius) (at_least t2 t3 60000)) h
      ∙ ap (λ (b : Bool). by false b (at_least t2 t3 60000)) r
      ∙ ap (by false true) t

  pub inputs-passed : ltb 1 k.body ≡ false → radius_allowed k.radius ≡ true → at_least t2 t3 60000 ≡ true → burn_of k active ta passive tp t2 t3 ≡ rest
  unfolding burn_of
  inputs-passed h r t =
      ap (λ (b : Bool). by b (radius_allowed k.radius) (at_least t2 t3 60000)) h
      ∙ ap (λ (b : Bool). by false b (at_least t2 t3 60000)) r
      ∙ ap (by false true) t
