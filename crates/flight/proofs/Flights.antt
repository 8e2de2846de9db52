-- An advance and a burn, case by case. Assumes nothing.
use Rattle.std.specs.Prelude.{Err, None, Ok, Some, is_some, Result}
use Rattle.refusal.specs.declared.Refusal.TheVariants as Refusal
use Prim.Native.Nat.{ℕ}
use mathlib.Core.Path.{◌≡◌, refl, ap}
use mathlib.Core.Bool.{Bool, true, false, not, cond}
use lib.Dec.{ltb}
use lib.IntN.{ℤ, ◌-ℤ◌, nat_abs}
use lib.Ieee.{Float, binary64, of_int}
use Rattle.facts.proofs.Wholes.{zero_one}
use Rattle.elapsed.specs.Elapsed.{elapsed_of}
use Rattle.vector.specs.declared.Vector.{Vector}
use Rattle.vector.specs.Vectors.{velocity_of, sum_of}
use Rattle.table.specs.declared.Name.TheVariants.{Velocity}
use Rattle.table.specs.Tests.{Entry, first_failing}
use Rattle.rows.specs.Rows.{velocity_components}
use Rattle.solve.specs.Answers.{advance_of}
use Rattle.flight.specs.declared.Mu.{Mu}
use Rattle.flight.specs.declared.Flight.{Flight}
use Rattle.flight.specs.Flight.{mu_of, too_far, flown_as, flown_of, burnt_of, burned_by, burned_of}

-- what the exact difference of the two times says
pub far-is : (f : Flight) (t : ℤ) → elapsed_of f.time t ≡ None → too_far f t ≡ true
unfolding elapsed_of too_far
far-is f t e = go (ltb 268435456 (nat_abs (t -ℤ f.time))) e
  where
    go : (b : Bool) → cond b None (Some (of_int binary64 (t -ℤ f.time))) ≡ None → b ≡ true
    go true h = refl
    go false h = let z : ◌≡◌ {A = ℕ} 0 1 = cc in absurd (zero_one z)

pub far-tested : (f : Flight) (t : ℤ) (r : Bool) → is_some (elapsed_of f.time t) ≡ not r → r ≡ too_far f t
unfolding elapsed_of too_far
far-tested f t r e = go (ltb 268435456 (nat_abs (t -ℤ f.time))) r e
  where
    go : (b r : Bool) → is_some (cond b None (Some (of_int binary64 (t -ℤ f.time)))) ≡ not r → r ≡ b
    go true true h = refl
    go true false h = h
    go false true h = h
    go false false h = refl

pub near-is : (f : Flight) (t : ℤ) (x : Float) → elapsed_of f.time t ≡ Some x → (too_far f t ≡ false) × (of_int binary64 (t -ℤ f.time) ≡ x)
unfolding elapsed_of too_far
near-is f t x e = go (ltb 268435456 (nat_abs (t -ℤ f.time))) e
  where
    go : (b : Bool) → cond b None (Some (of_int binary64 (t -ℤ f.time))) ≡ Some x → (b ≡ false) × (of_int binary64 (t -ℤ f.time) ≡ x)
    go false h = (refl, cc)
    go true h = let z : ◌≡◌ {A = ℕ} 0 1 = cc in absurd (zero_one z)

pub flown-far : (mu : Mu) (f : Flight) (t : ℤ) → too_far f t ≡ true → flown_of mu f t ≡ Err Refusal.TimeOutOfRange
unfolding flown_of
flown-far mu f t h = ap (λ (b : Bool). cond b (Err Refusal.TimeOutOfRange) (flown_as f.body t (advance_of (mu_of mu f.body) f.state (of_int binary64 (t -ℤ f.time))))) h

pub flown-near : (mu : Mu) (f : Flight) (t : ℤ) → too_far f t ≡ false
    → flown_of mu f t ≡ flown_as f.body t (advance_of (mu_of mu f.body) f.state (of_int binary64 (t -ℤ f.time)))
unfolding flown_of
flown-near mu f t h = ap (λ (b : Bool). cond b (Err Refusal.TimeOutOfRange) (flown_as f.body t (advance_of (mu_of mu f.body) f.state (of_int binary64 (t -ℤ f.time))))) h

pub burned-passed : (f : Flight) (d : Vector) → first_failing (velocity_components Refusal.VelocityOutOfRange Velocity (sum_of (velocity_of f.state) d)) ≡ Ok tt → burned_of f d ≡ Ok (burnt_of f d)
unfolding burned_of burned_by
burned-passed f d h = ap (λ (t : Result Unit Entry). burned_by t (burnt_of f d)) h

pub burned-failed : (f : Flight) (d : Vector) (e : Entry) → first_failing (velocity_components Refusal.VelocityOutOfRange Velocity (sum_of (velocity_of f.state) d)) ≡ Err e → burned_of f d ≡ Err e.refusal
unfolding burned_of burned_by
burned-failed f d e h = ap (λ (t : Result Unit Entry). burned_by t (burnt_of f d)) h
