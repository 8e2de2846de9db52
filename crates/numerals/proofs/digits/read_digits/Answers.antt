-- `read_digits`: n is the number of the bytes read; the test ahead of a digit tells a number that a u64 does not hold.
use Rattle.std.proofs.Common.{arith}
use Rattle.numerals.proofs.Values.{bad-digit, too_large, more-digits, all_read, over, fits}
use Rattle.numerals.proofs.digits.read_digits.Goals as goal
use Rattle.numerals.proofs.digits.read_digits.Goals.{then-d-base-via-then-d-base, then-d-base-via-else-d-base+then-n-d}

pub returns-then-d-base : goal.returns-then-d-base
returns-then-d-base c =
    let d = c.digit_value-d.ensures in
    elim c.then-d-base.branch [
      | then-d-base-via-then-d-base w ↦ bad-digit _ _ _ _ _ c.loop-b.invariant c.loop-b-test.true (omega arith)
      | then-d-base-via-else-d-base+then-n-d w ↦ let o = over _ _ _ c.requires.0 (omega arith) w.if-n-d.true in too_large _ _ _ _ _ c.loop-b.invariant c.loop-b-test.true c.requires.0 (rw d at o)
    ]

pub loop-b-preserved : goal.loop-b-preserved
loop-b-preserved c =
    let d = c.digit_value-d.ensures in
    let f = fits _ _ _ c.requires.0 (omega arith) c.if-n-d.false in
    rw d (more-digits _ _ _ _ _ c.loop-b.invariant c.loop-b-test.true (omega arith) (rw d at f))

pub returns : goal.returns
returns c = all_read _ _ _ _ _ c.loop-b.invariant c.loop-b-test.false
