-- What a list of six numbers gives the sight line. Assumes nothing.
use Prim.Native.Nat.{ℕ}
use mathlib.Core.List.{List}
use lib.ListN.{get_or}
use lib.Ieee.{Float, nan}
use Rattle.vector.specs.declared.Vector.{Vector}
use Rattle.forms.specs.declared.Request.{Request}
use Rattle.forms.specs.declared.Request.TheVariants as Q
use Rattle.forms.specs.declared.Look.TheVariants.{Sight}
use Rattle.forms.specs.Forms.{Form}
use Rattle.looks.specs.Looks.{elevation_form}

abbrev pub first_in : List Float → Vector
first_in xs = record { x = get_or xs 0 nan; y = get_or xs 1 nan; z = get_or xs 2 nan }

abbrev pub second_in : List Float → Vector
second_in xs = record { x = get_or xs 3 nan; y = get_or xs 4 nan; z = get_or xs 5 nan }

abbrev pub sight_go : List Float → Form
sight_go xs = elevation_form (first_in xs) (second_in xs)

abbrev pub sight_of : Vector → Vector → ℕ → List Float → Request
sight_of active passive e xs = Q.Look (Sight active passive e (first_in xs) (second_in xs))
