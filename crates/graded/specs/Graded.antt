-- The iterated solves by the settings (T-11): the grades' constants are read from the version named in the call. 30 and 23 are ahead
-- of the solve's own numbers; a version alters the grade and nothing else. Assumes nothing: these are definitions.
use Rattle.refusal.specs.declared.Refusal.{Refusal}
use Rattle.std.specs.Prelude.{ℕ, List, Float, Err, Ok, Result}
use Rattle.real.specs.F64.{size_of}
use Rattle.vector.specs.declared.Vector.{Vector}
use Rattle.vector.specs.declared.State.{State}
use Rattle.iterator.specs.declared.Beginning.{Beginning}
use Rattle.lambert.specs.declared.Way.{Way}
use Rattle.solve.specs.declared.Fractions.{Fractions}
use Rattle.solve.specs.declared.Solution.{Solution}
use Rattle.solve.specs.declared.Advanced.TheVariants as Ad
use Rattle.solve.specs.declared.Transferred.TheVariants as Tr
use Rattle.solve.specs.Answers.{Advanced, Transferred, grade_of, advance_to, transfer_velocity_to}
use Rattle.settings.specs.declared.allowed.Setting.{Setting}
use Rattle.settings.specs.History.{look_up}

abbrev pub fractions_of : Setting → Fractions
fractions_of x = record { closed = x.closed; fair = x.fair }

-- the grade by these fractions of the size of time asked for
abbrev pub graded : Fractions → Float → Solution → Solution
graded f size x = record { n = x.n; t = x.t; err = x.err; grade = grade_of f size x.err; count = x.count }

unfoldable pub graded_advanced : Fractions → Float → Advanced → Advanced
graded_advanced f size (Ad.Found s x turns) = Ad.Found s (graded f size x) turns
graded_advanced f size Ad.TooLong = Ad.TooLong
graded_advanced f size (Ad.NotFinished b) = Ad.NotFinished b
graded_advanced f size (Ad.Refused n) = Ad.Refused n

unfoldable pub graded_transferred : Fractions → Float → Transferred → Transferred
graded_transferred f size (Tr.Found v x) = Tr.Found v (graded f size x)
graded_transferred f size Tr.TooLong = Tr.TooLong
graded_transferred f size Tr.TooShort = Tr.TooShort
graded_transferred f size (Tr.NotFinished b) = Tr.NotFinished b
graded_transferred f size (Tr.Refused n) = Tr.Refused n

-- by what the settings' version is
unfoldable pub advance_by : Result Setting Refusal → Float → State → Float → ℕ → Beginning → Advanced
advance_by (Ok x) mu s t limit g = graded_advanced (fractions_of x) (size_of t) (advance_to mu s t limit g)
advance_by (Err n) mu s t limit g = Ad.Refused n

unfoldable pub transfer_by : Result Setting Refusal → Float → Vector → Vector → Way → Float → ℕ → Beginning → Transferred
transfer_by (Ok x) mu first second way t limit g = graded_transferred (fractions_of x) t (transfer_velocity_to mu first second way t limit g)
transfer_by (Err n) mu first second way t limit g = Tr.Refused n

-- version k of the used part
abbrev pub graded_advance : List ℕ → ℕ → Float → State → Float → ℕ → Beginning → Advanced
graded_advance used k mu s t limit g = advance_by (look_up used k) mu s t limit g

abbrev pub graded_transfer : List ℕ → ℕ → Float → Vector → Vector → Way → Float → ℕ → Beginning → Transferred
graded_transfer used k mu first second way t limit g = transfer_by (look_up used k) mu first second way t limit g
