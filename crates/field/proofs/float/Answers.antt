-- A NaN's pattern is told by its size without the sign. Assumes nothing.
use lib.Ieee.{of_bits, div}
use Rattle.real.proofs.Patterns.{nan-bits, no-nan-bits}
use Rattle.field.proofs.float.Goals as goal

pub returns-then-n-gt9218868437227405312 : goal.returns-then-n-gt9218868437227405312
unfolding of_bits div
returns-then-n-gt9218868437227405312 c = nan-bits _ c.if-n-gt9218868437227405312.true

pub float_from_bits-result : goal.float_from_bits-result
float_from_bits-result c = no-nan-bits _ c.if-n-gt9218868437227405312.false
