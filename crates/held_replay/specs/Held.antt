-- The two vehicles of a replay in lent memory: numbers and whole numbers. Assumes nothing: these are definitions.
use Rattle.flight.specs.declared.Flight.{Flight}
use Rattle.std.specs.Prelude.{ℕ, Bool, cond, ◌||◌, List, [], ◌∷◌, ltb, eqb, get_or, drop, Float, None, Option, Some}
use Rattle.real.specs.F64.{f0}
use Rattle.field.specs.Bytes.{bits_of, signed_of}
use Rattle.vector.specs.declared.State.{State}
use Rattle.replay.specs.declared.Replay.{Replay}
use Rattle.lent.specs.Given.{state_in}

-- ---- a vehicle: 1 where it is set, its body, the time of its state; the state. All 0 where it is not set

abbrev pub set_in : Option Flight → ℕ
set_in None = 0
set_in (Some f) = 1

abbrev pub body_in : Option Flight → ℕ
body_in None = 0
body_in (Some f) = f.body

abbrev pub vehicle_time : Option Flight → ℕ
vehicle_time None = 0
vehicle_time (Some f) = bits_of f.time

abbrev pub state_held : Option Flight → State
state_held None = record { rx = f0; ry = f0; rz = f0; vx = f0; vy = f0; vz = f0 }
state_held (Some f) = f.state

-- the same read; a body other than 0 counts as the moon, and is refused before if it is not 1
unfoldable pub body_from : ℕ → ℕ
body_from n = cond (eqb n 0) 0 1

unfoldable pub vehicle_from : ℕ → ℕ → ℕ → State → Option Flight
vehicle_from set body time s = cond (eqb set 0) None (Some (record { body = body_from body; time = signed_of time; state = s }))

-- the second state of a lent array: the first of what stands behind six numbers
abbrev pub second_in : List Float → State
second_in d = state_in (drop 6 d)

-- ---- both: the case of the last step, which is not read, then vehicle 0 and vehicle 1

abbrev pub replay_from : List Float → List ℕ → Replay
replay_from d w = record {
  v0 = vehicle_from (get_or w 1 0) (get_or w 2 0) (get_or w 3 0) (state_in d);
  v1 = vehicle_from (get_or w 4 0) (get_or w 5 0) (get_or w 6 0) (second_in d);
}

abbrev pub held_wholes : ℕ → Replay → List ℕ
held_wholes k p =
    k ∷ set_in p.v0 ∷ body_in p.v0 ∷ vehicle_time p.v0 ∷ set_in p.v1 ∷ body_in p.v1 ∷ vehicle_time p.v1 ∷ []

abbrev pub both_numbers : State → State → List Float → List Float
both_numbers a b xs =
    a.rx ∷ a.ry ∷ a.rz ∷ a.vx ∷ a.vy ∷ a.vz ∷ b.rx ∷ b.ry ∷ b.rz ∷ b.vx ∷ b.vy ∷ b.vz ∷ xs

abbrev pub held_numbers : Replay → List Float → List Float
held_numbers p xs = both_numbers (state_held p.v0) (state_held p.v1) xs

-- a vehicle is neither set nor not, or its body is none
unfoldable pub held_wrong : List ℕ → Bool
held_wrong w = ltb 1 (get_or w 1 0) || (ltb 1 (get_or w 2 0) || (ltb 1 (get_or w 4 0) || ltb 1 (get_or w 5 0)))
