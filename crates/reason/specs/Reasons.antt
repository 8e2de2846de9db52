-- The number that a reason gives. Assumes nothing: these are definitions.
use Rattle.std.specs.Prelude.{ℕ}
use Rattle.refusal.specs.declared.Refusal.{Refusal}
use Rattle.refusal.specs.Refusals.{number_of}
use Rattle.reason.specs.declared.Stop.{Stop as StopOf}
use Rattle.reason.specs.declared.Reason.{Reason as ReasonOf}
use Rattle.reason.specs.declared.Reason.TheVariants as R

-- whose refusals are cases of `Refusal`; StopOf R and ReasonOf R have refusals of another type, as any number
abbrev pub Stop : Type 0
Stop = StopOf Refusal

abbrev pub Reason : Type 0
Reason = ReasonOf Refusal

abbrev pub reason_number_by : {R : Type 0} → (R → ℕ) → ReasonOf R → ℕ
reason_number_by number (R.Test e) = number e.refusal
reason_number_by number (R.Amiss a) = 6
reason_number_by number (R.TooShort b s) = 8
reason_number_by number (R.TooLong b s) = 7
reason_number_by number (R.Range e) = number e.refusal
reason_number_by number (R.NotFinished b) = 29
reason_number_by number (R.Settings n) = number n
reason_number_by number (R.Between n) = 0
reason_number_by number R.Solved = 0

unfoldable pub reason_number : Reason → ℕ
reason_number r = reason_number_by number_of r
