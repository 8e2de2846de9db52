-- What a call's number says. Assumes nothing: these are definitions.
use Rattle.std.specs.Prelude.{◌≡◌, Bool, true, false}
use Rattle.lent.specs.Given.{Told, answer, refused, told_number}

abbrev pub is_answer : Told → Bool
is_answer (answer xs zs) = true
is_answer (refused n) = false

-- where 0 is returned, there is an answer
abbrev pub ZeroAnswers : Told → Type 0
ZeroAnswers t = told_number t ≡ 0 → is_answer t ≡ true
