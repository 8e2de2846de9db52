-- `read_digits`: n is the number of the bytes read; the test ahead of a digit tells a number that a u64 does not hold.
use Rattle.numerals.proofs.Values.{Reading}
use Rattle.numerals.proofs.digits.read_digits.Given as goal

abbrev pub invariant-loop-b : goal.invariant-loop-b
invariant-loop-b l = Reading l.base l.v l.s l.n l.b-index
