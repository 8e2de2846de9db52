-- What one number asks. Assumes nothing.
use mathlib.Core.List.{List}
use lib.ListN.{get_or}
use lib.Ieee.{Float, nan}
use Rattle.forms.specs.declared.Request.{Request}

abbrev pub one : (Float → Request) → List Float → Request
one ask xs = ask (get_or xs 0 nan)
