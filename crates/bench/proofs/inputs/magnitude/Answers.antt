-- The patterns of a NaN lie above that of the infinity.
use Rattle.std.proofs.Common.{◌%◌, arith, le-ltb}
use lib.Ieee.Bits.{nan_bits_above}
use Rattle.bench.proofs.inputs.magnitude.Goals as goal

pub float_from_bits-result : goal.float_from_bits-result
float_from_bits-result c =
    let u = c.next-b.result in
    rw (nan_bits_above, le-ltb 9218868437227405312 (u % 9223372036854775808 % 9223372036854775808) (omega arith)) tt
