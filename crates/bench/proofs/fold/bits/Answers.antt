-- No NaN is left after the test.
use Rattle.real.proofs.Patterns.{not-nan}
use Rattle.bench.proofs.fold.bits.Goals as goal

pub float_to_bits-result : goal.float_to_bits-result
float_to_bits-result c = not-nan c.args.x c.if-x.false
