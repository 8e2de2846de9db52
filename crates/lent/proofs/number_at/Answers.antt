-- There, or not. Assumes nothing.
use Rattle.std.proofs.Common.{◌≡◌, refl, arith}
use Rattle.std.proofs.lemmas.Grind.{common_steps}
use lib.Ieee.{nan, binary64, of_bits, of_fields, odd}
use Rattle.lent.proofs.number_at.Goals as goal

a_nan : of_bits binary64 9221120237041090560 ≡ nan
unfolding of_bits of_fields odd
a_nan = refl

pub returns : goal.returns
returns c = let u = rw a_nan at c.unwrap_or.ensures in grind (arith, common_steps)
