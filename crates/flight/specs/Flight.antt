-- The flight of one vehicle (02, T-10): an advance to a time, a burn, and a range. Assumes nothing: these are definitions.
use Rattle.refusal.specs.declared.Refusal.{Refusal}
use Rattle.std.specs.Prelude.{ℕ, Bool, cond, ltb, eqb, ℤ, ◌-ℤ◌, nat_abs, Float, Err, Ok, Result}
use Rattle.std.specs.Float.{binary64}
use Rattle.std.specs.Float.Ieee.{of_int}
use Rattle.real.specs.F64.{◌⊖◌}
use Rattle.vector.specs.declared.Vector.{Vector}
use Rattle.vector.specs.Vectors.{position_of, velocity_of, state_of, length_of, sum_of, difference_of}
use Rattle.table.specs.declared.Name.TheVariants.{Velocity}
use Rattle.table.specs.Tests.{Entry, first_failing}
use Rattle.rows.specs.Rows.{velocity_components}
use Rattle.solve.specs.declared.Advanced.TheVariants as Ad
use Rattle.solve.specs.Answers.{Advanced, advance_of}
use Rattle.flight.specs.declared.Mu.{Mu}
use Rattle.flight.specs.declared.Flight.{Flight}

-- ---- an advance: 5 for an exact time difference over 2^28 in size, then Kepler's, too long as 7

-- body 0 is the earth
unfoldable pub mu_of : Mu → ℕ → Float
mu_of mu body = cond (eqb body 0) mu.earth mu.moon

unfoldable pub too_far : Flight → ℤ → Bool
too_far f t = ltb 268435456 (nat_abs (t -ℤ f.time))

unfoldable pub flown_as : ℕ → ℤ → Advanced → Result Flight Refusal
flown_as body t (Ad.Found s x w) = Ok (record { body = body; time = t; state = s })
flown_as body t Ad.TooLong = Err Refusal.TooLong
flown_as body t (Ad.NotFinished b) = Err Refusal.NotFinished
flown_as body t (Ad.Refused n) = Err n

unfoldable pub flown_of : Mu → Flight → ℤ → Result Flight Refusal
flown_of mu f t =
    cond (too_far f t) (Err Refusal.TimeOutOfRange)
    (flown_as f.body t (advance_of (mu_of mu f.body) f.state (of_int binary64 (t -ℤ f.time))))

-- ---- a burn adds its change; 4 for the velocity after it

abbrev pub burnt_of : Flight → Vector → Flight
burnt_of f d = record { body = f.body; time = f.time; state = state_of (position_of f.state) (sum_of (velocity_of f.state) d) }

unfoldable pub burned_by : Result Unit Entry → Flight → Result Flight Refusal
burned_by (Ok u) f = Ok f
burned_by (Err e) f = Err e.refusal

unfoldable pub burned_of : Flight → Vector → Result Flight Refusal
burned_of f d = burned_by (first_failing (velocity_components Refusal.VelocityOutOfRange Velocity (sum_of (velocity_of f.state) d))) (burnt_of f d)

-- ---- computed range minus recorded range, with range = |r0 − r1|

unfoldable pub off_of : Flight → Flight → Float → Float
off_of a b range = length_of (difference_of (position_of a.state) (position_of b.state)) ⊖ range
