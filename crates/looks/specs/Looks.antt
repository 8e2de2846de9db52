-- What the lines of the thumbwheel and of the sight line hold behind their names. Assumes nothing: these are definitions.
use Rattle.std.specs.Prelude.{ℕ}
use Rattle.vector.specs.declared.Vector.{Vector}
use Rattle.forms.specs.declared.Request.TheVariants as Q
use Rattle.forms.specs.declared.Look.TheVariants.{Wheel, Sight}
use Rattle.forms.specs.Forms.{Form, end, whole}
use Rattle.solves.specs.Solves.{vector}

abbrev pub wheel_form : Form
wheel_form = whole λ e. end (Q.Look (Wheel e))

-- the active and the passive position, the elevation, the horizontal and the vertical
abbrev pub axes_form : Vector → Vector → ℕ → Form
axes_form active passive elevation = vector λ horizontal. vector λ vertical. end (Q.Look (Sight active passive elevation horizontal vertical))

abbrev pub elevation_form : Vector → Vector → Form
elevation_form active passive = whole λ e. axes_form active passive e

abbrev pub sight_form : Form
sight_form = vector λ active. vector λ passive. elevation_form active passive
