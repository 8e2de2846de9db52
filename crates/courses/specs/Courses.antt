-- What the line of the constant-height burn holds behind its name. Assumes nothing: these are definitions.
use Rattle.std.specs.Prelude.{ℕ, ℤ, Float}
use Rattle.vector.specs.declared.State.{State}
use Rattle.vector.specs.Vectors.{state_of}
use Rattle.forms.specs.declared.Request.TheVariants.{Burn}
use Rattle.forms.specs.Forms.{Form, end, number, signed, whole}
use Rattle.solves.specs.Solves.{vector}

-- a position and a velocity
abbrev pub state : (State → Form) → Form
state go = vector λ r. vector λ v. go (state_of r v)

-- the burn's time and the next manoeuvre's
abbrev pub times_form : ℕ → Float → Float → State → ℤ → State → ℤ → Form
times_form body radius mu active ta passive tp = signed λ t2. signed λ t3. end (Burn body radius mu active ta passive tp t2 t3)

-- the passive state and its time
abbrev pub passive_time : ℕ → Float → Float → State → ℤ → State → Form
passive_time body radius mu active ta passive = signed λ tp. times_form body radius mu active ta passive tp

abbrev pub passive_form : ℕ → Float → Float → State → ℤ → Form
passive_form body radius mu active ta = state λ passive. passive_time body radius mu active ta passive

-- the active state and its time
abbrev pub active_time : ℕ → Float → Float → State → Form
active_time body radius mu active = signed λ ta. passive_form body radius mu active ta

-- the surface radius and mu
abbrev pub centre_form : ℕ → Form
centre_form body = number λ radius. number λ mu. state λ active. active_time body radius mu active

abbrev pub cdh_form : Form
cdh_form = whole λ body. centre_form body
