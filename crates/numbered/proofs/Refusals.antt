-- No refusal has the number 0, so that 0 is returned for an answer alone, whatever the call. Assumes nothing.
use Rattle.std.specs.Prelude.{◌≡◌}
use Rattle.std.proofs.Common.{refl, arith}
use Rattle.refusal.proofs.Numbers.{some_number}
use Rattle.lent.specs.Given.{Told, answer, refused, told_number}
use Rattle.numbered.specs.Zero.{ZeroAnswers}

pub zero-answers : (t : Told) → ZeroAnswers t
unfolding told_number
zero-answers (answer xs zs) e = refl
zero-answers (refused r) e = let h = some_number r in absurd (omega (arith, h, e))
