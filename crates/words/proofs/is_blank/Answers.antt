-- `is_blank` is the definition's three tests.
use Rattle.std.proofs.Common.{arith}
use Rattle.std.proofs.lemmas.Bool.Decides.{nat_tests}
use Rattle.words.specs.Words.{is_of}
use Rattle.words.proofs.is_blank.Goals as goal

pub returns-in-32 : goal.returns-in-32
unfolding is_of
returns-in-32 c = grind (arith, nat_tests)

pub returns-in_default : goal.returns-in_default
unfolding is_of
returns-in_default c = grind (arith, nat_tests)
