-- The vehicles of a replay that are handed out and handed in again are those vehicles. Assumes nothing.
use Rattle.std.specs.Prelude.{None, Option, Some}
use Prim.Native.Nat.{ℕ}
use mathlib.Core.Path.{◌≡◌, refl}
use mathlib.Core.List.{List}
use lib.Ieee.{Float}
use mir.Syntax.{w64}
use mir.Val.{SFits}
use mir.Facts.{to_z-of_z}
use Rattle.flight.specs.declared.Flight.{Flight}
use Rattle.replay.specs.declared.Replay.{Replay}
use Rattle.held_replay.specs.Held.{set_in, body_in, vehicle_time, state_held, body_from, vehicle_from, replay_from, held_wholes, held_numbers}

-- a vehicle as memory holds it: its body is 0 or 1, and its time has 64 bits
pub record Holds (v : Option Flight) : Type 0 where
  pub body : body_from (body_in v) ≡ body_in v
  pub time : (f : Flight) → v ≡ Some f → SFits w64 f.time

pub vehicle-back : (v : Option Flight) → Holds v → vehicle_from (set_in v) (body_in v) (vehicle_time v) (state_held v) ≡ v
unfolding vehicle_from
vehicle-back None h = refl
vehicle-back (Some f) h = rw (h.body, to_z-of_z {w = w64} {z = f.time} (h.time f refl))

pub vehicles-back : (p : Replay) (k : ℕ) (xs : List Float) → Holds p.v0 → Holds p.v1 → replay_from (held_numbers p xs) (held_wholes k p) ≡ p
vehicles-back p k xs g h = rw (vehicle-back p.v0 g, vehicle-back p.v1 h)
