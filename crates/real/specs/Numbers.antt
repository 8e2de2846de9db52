-- The refusal's number of an answer, and 0 for a value. Assumes nothing: these are definitions.
use Rattle.refusal.specs.declared.Refusal.{Refusal}
use Rattle.std.specs.Prelude.{ℕ, Err, Float, Ok, Result}
use Rattle.refusal.specs.Refusals.{number_of}

unfoldable pub answer_number : Result Float Refusal → ℕ
answer_number (Ok x) = 0
answer_number (Err n) = number_of n
