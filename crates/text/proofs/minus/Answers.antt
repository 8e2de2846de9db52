-- The minus and the digits stand one behind the other. Assumes nothing.
use native.Mathlib.Omega.{arith}
use Rattle.text.proofs.Puts.{put}
use Rattle.text.proofs.Stand.{then}
use Rattle.text.proofs.Decimals.{at_most}
use Rattle.text.proofs.minus.Goals as goal

pub overflow_add-k : goal.overflow_add-k
overflow_add-k c = omega (arith, c.count_digits-k.ensures, at_most 20 c.args.n)

pub returns-then-has_room : goal.returns-then-has_room
returns-then-has_room c = put (then c.put_byte-a.ensures c.put_digits.ensures)
