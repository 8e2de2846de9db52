-- What a list of numbers gives a solve. Assumes nothing.
use Prim.Native.Nat.{ℕ}
use mathlib.Core.List.{List}
use lib.ListN.{get_or}
use lib.Ieee.{Float, nan}
use Rattle.vector.specs.declared.State.{State}
use Rattle.iterator.specs.declared.Beginning.{Beginning}
use Rattle.lambert.specs.declared.Way.{Way}
use Rattle.lambert.specs.declared.Way.TheVariants.{Normal}
use Rattle.forms.specs.declared.Version.{Version}
use Rattle.forms.specs.declared.Request.{Request}
use Rattle.forms.specs.declared.Solve.{Solve}
use Rattle.forms.specs.declared.Solve.TheVariants.{Kepler, Lambert, Theta, Apsides}
use Rattle.forms.specs.Forms.{Form}
use Rattle.options.specs.Options.{options}
use Rattle.solves.specs.Solves.{way}

abbrev state_in : List Float → State
state_in xs = record {
  rx = get_or xs 1 nan;
  ry = get_or xs 2 nan;
  rz = get_or xs 3 nan;
  vx = get_or xs 4 nan;
  vy = get_or xs 5 nan;
  vz = get_or xs 6 nan;
}

abbrev kepler_of : List Float → Beginning → ℕ → Version → Solve
kepler_of xs g l v = Kepler (get_or xs 0 nan) (state_in xs) (get_or xs 7 nan) g l v

abbrev pub kepler_ask : (Solve → Request) → List Float → Beginning → ℕ → Version → Request
kepler_ask ask xs g l v = ask (kepler_of xs g l v)

abbrev pub kepler_go : (Solve → Request) → List Float → Form
kepler_go ask xs = options (kepler_ask ask xs)

abbrev lambert_of : List Float → Way → Beginning → ℕ → Version → Solve
lambert_of xs w g l v =
    Lambert (get_or xs 0 nan) (record { x = get_or xs 1 nan; y = get_or xs 2 nan; z = get_or xs 3 nan }) (record { x = get_or xs 4 nan; y = get_or xs 5 nan; z = get_or xs 6 nan }) (get_or xs 7 nan) w g l v

abbrev pub lambert_ask : (Solve → Request) → List Float → Way → Beginning → ℕ → Version → Request
lambert_ask ask xs w g l v = ask (lambert_of xs w g l v)

abbrev pub lambert_end : (Solve → Request) → List Float → Way → Form
lambert_end ask xs w = options (lambert_ask ask xs w)

abbrev pub lambert_go : (Solve → Request) → List Float → Form
lambert_go ask xs = way (lambert_end ask xs)

abbrev pub normal_go : (Way → Form) → List Float → Form
normal_go go xs = go (Normal (record { x = get_or xs 0 nan; y = get_or xs 1 nan; z = get_or xs 2 nan }))

abbrev pub theta_of : List Float → Solve
theta_of xs = Theta (get_or xs 0 nan) (state_in xs) (get_or xs 7 nan) (get_or xs 8 nan)

abbrev pub apsides_of : List Float → Solve
apsides_of xs = Apsides (get_or xs 0 nan) (state_in xs)
