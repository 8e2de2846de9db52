-- Where an advance and a burn come to: at the time asked for, about the same body, in a state without a NaN or an infinity. Assumes nothing.
use Rattle.std.specs.Prelude.{Err, Ok, Result}
use Rattle.refusal.specs.declared.Refusal.{Refusal}
use Prim.Native.Nat.{ℕ}
use mathlib.Core.Path.{◌≡◌, refl, subst}
use mathlib.Core.Bool.{Bool, true, false, cond}
use lib.IntN.{ℤ, ◌-ℤ◌}
use lib.Ieee.{Float, binary64, of_int}
use Rattle.facts.proofs.Wholes.{zero_one}
use Rattle.vector.specs.declared.Vector.{Vector}
use Rattle.vector.specs.Vectors.{velocity_of, sum_of}
use Rattle.table.specs.declared.Name.TheVariants.{Velocity}
use Rattle.table.specs.Tests.{Entry, first_failing, all_meet}
use Rattle.table.proofs.Laws.{all_met_lem}
use Rattle.rows.specs.Rows.{velocity_components}
use Rattle.rows.proofs.Components.{velocity-finite}
use Rattle.kepler.proofs.Laws.{FiniteState}
use Rattle.solve.specs.declared.Advanced.TheVariants as Ad
use Rattle.solve.specs.Answers.{Advanced, advance_of}
use Rattle.solve.proofs.Finite.{advance-finite}
use Rattle.flight.specs.declared.Mu.{Mu}
use Rattle.flight.specs.declared.Flight.{Flight}
use Rattle.flight.specs.Flight.{mu_of, too_far, flown_as, flown_of, burnt_of, burned_by, burned_of}

pub record Came (f : Flight) (t : ℤ) (g : Flight) : Type 0 where
  pub time : g.time ≡ t
  pub body : g.body ≡ f.body
  pub state : FiniteState g.state

pub not-refused : (n : Refusal) (g : Flight) → Err n ≡ Ok g → ⊥
not-refused n g e = let z : ◌≡◌ {A = ℕ} 0 1 = cc in zero_one z

same-flight : (f g : Flight) → ◌≡◌ {A = Result Flight Refusal} (Ok f) (Ok g) → f ≡ g
same-flight f g e = cc

module _ (mu : Mu) (f : Flight) (t : ℤ) (g : Flight) where
  found-came : (m x : Float) (a : Advanced) → advance_of m f.state x ≡ a → flown_as f.body t a ≡ Ok g → Came f t g
  unfolding flown_as
  found-came m x (Ad.Found s y w) k e =
      let q = same-flight (record { body = f.body; time = t; state = s }) g e in
      subst (Came f t) q (record { time = refl; body = refl; state = (advance-finite m f.state x s y w k).0 })
  found-came m x Ad.TooLong k e = absurd (not-refused Refusal.TooLong g e)
  found-came m x (Ad.NotFinished b) k e = absurd (not-refused Refusal.NotFinished g e)
  found-came m x (Ad.Refused n) k e = absurd (not-refused n g e)

  pub flown-came : flown_of mu f t ≡ Ok g → Came f t g
  unfolding flown_of
  flown-came e = go (too_far f t) e
    where
      m : Float
      m = mu_of mu f.body

      x : Float
      x = of_int binary64 (t -ℤ f.time)

      go : (b : Bool) → cond b (Err Refusal.TimeOutOfRange) (flown_as f.body t (advance_of m f.state x)) ≡ Ok g → Came f t g
      go true e = absurd (not-refused Refusal.TimeOutOfRange g e)
      go false e = found-came m x (advance_of m f.state x) refl e

pub burned-came : (f : Flight) (d : Vector) (g : Flight) → FiniteState f.state → burned_of f d ≡ Ok g → Came f f.time g
unfolding burned_of burned_by
burned-came f d g h e = go (first_failing (velocity_components Refusal.VelocityOutOfRange Velocity (sum_of (velocity_of f.state) d))) refl e
  where
    go : (x : Result Unit Entry) → first_failing (velocity_components Refusal.VelocityOutOfRange Velocity (sum_of (velocity_of f.state) d)) ≡ x → burned_by x (burnt_of f d) ≡ Ok g → Came f f.time g
    go (Ok u) k e =
        let v = sum_of (velocity_of f.state) d in
        subst (Came f f.time) (same-flight (burnt_of f d) g e)
        (record { time = refl; body = refl; state = record { r = h.r; v = velocity-finite Refusal.VelocityOutOfRange Velocity v (all_met_lem (velocity_components Refusal.VelocityOutOfRange Velocity v) k) } })
    go (Err c) k e = absurd (not-refused c.refusal g e)

-- the velocity after a burn is in row 4's range
pub burned-in-range : (f : Flight) (d : Vector) (g : Flight) → burned_of f d ≡ Ok g → all_meet (velocity_components Refusal.VelocityOutOfRange Velocity (velocity_of g.state)) ≡ true
unfolding burned_of burned_by
burned-in-range f d g e = go (first_failing (velocity_components Refusal.VelocityOutOfRange Velocity (sum_of (velocity_of f.state) d))) refl e
  where
    go : (x : Result Unit Entry) → first_failing (velocity_components Refusal.VelocityOutOfRange Velocity (sum_of (velocity_of f.state) d)) ≡ x → burned_by x (burnt_of f d) ≡ Ok g
        → all_meet (velocity_components Refusal.VelocityOutOfRange Velocity (velocity_of g.state)) ≡ true
    go (Ok u) k e =
        subst (λ (x : Flight). all_meet (velocity_components Refusal.VelocityOutOfRange Velocity (velocity_of x.state)) ≡ true) (same-flight (burnt_of f d) g e)
        (all_met_lem (velocity_components Refusal.VelocityOutOfRange Velocity (sum_of (velocity_of f.state) d)) k)
    go (Err c) k e = absurd (not-refused c.refusal g e)
