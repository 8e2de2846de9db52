-- What a list of numbers gives the burn: a state at its end. Assumes nothing.
use Prim.Native.Nat.{ℕ}
use mathlib.Core.List.{List}
use lib.ListN.{get_or}
use lib.IntN.{ℤ}
use lib.Ieee.{Float, nan}
use Rattle.vector.specs.declared.State.{State}
use Rattle.forms.specs.declared.Request.TheVariants.{Burn}
use Rattle.forms.specs.Forms.{Form, end}
use Rattle.courses.specs.Courses.{passive_time, active_time}

abbrev pub passive_in : List Float → State
passive_in xs = record { rx = get_or xs 0 nan; ry = get_or xs 1 nan; rz = get_or xs 2 nan; vx = get_or xs 3 nan; vy = get_or xs 4 nan; vz = get_or xs 5 nan }

abbrev pub passive_go : ℕ → Float → Float → State → ℤ → List Float → Form
passive_go body radius mu active ta xs = passive_time body radius mu active ta (passive_in xs)

abbrev pub radius_in : List Float → Float
radius_in xs = get_or xs 0 nan

abbrev pub mu_in : List Float → Float
mu_in xs = get_or xs 1 nan

abbrev pub active_in : List Float → State
active_in xs = record { rx = get_or xs 2 nan; ry = get_or xs 3 nan; rz = get_or xs 4 nan; vx = get_or xs 5 nan; vy = get_or xs 6 nan; vz = get_or xs 7 nan }

abbrev pub active_go : ℕ → List Float → Form
active_go body xs = active_time body (radius_in xs) (mu_in xs) (active_in xs)

abbrev pub times_go : ℕ → Float → Float → State → ℤ → State → ℤ → ℤ → ℤ → Form
times_go body radius mu active ta passive tp t2 t3 = end (Burn body radius mu active ta passive tp t2 t3)
