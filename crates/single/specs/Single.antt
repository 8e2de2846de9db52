-- What the line of a single trial holds behind its name. Assumes nothing: these are definitions.
use Rattle.std.specs.Prelude.{ℤ, Float}
use Rattle.iterator.specs.declared.Judgement.{Judgement}
use Rattle.forms.specs.declared.Request.TheVariants.{Trial}
use Rattle.forms.specs.Forms.{Form, end, number, signed, whole, judgement}

abbrev pub trial_counted : Float → ℤ → ℤ → Judgement → Judgement → Form
trial_counted asked lo hi below above = whole λ k. end (Trial asked lo hi below above k)

abbrev pub trial_judged : Float → ℤ → ℤ → Form
trial_judged asked lo hi = judgement λ below. judgement λ above. trial_counted asked lo hi below above

abbrev pub trial_between : Float → Form
trial_between asked = signed λ lo. signed λ hi. trial_judged asked lo hi

abbrev pub trial_form : Form
trial_form = number λ asked. trial_between asked
