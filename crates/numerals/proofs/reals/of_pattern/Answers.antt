-- `of_pattern`: a NaN's pattern is told by its size without the sign.
use Rattle.std.specs.Prelude.{Some}
use Rattle.std.proofs.Common.{sym, ap, ◌∙◌}
use Rattle.numerals.specs.Numbers.{of_pattern}
use Rattle.real.proofs.Patterns.{nan-bits, no-nan-bits}
use Rattle.numerals.proofs.reals.of_pattern.Goals as goal

pub returns-then-n-gt9218868437227405312 : goal.returns-then-n-gt9218868437227405312
returns-then-n-gt9218868437227405312 c = ap Some (nan-bits _ c.if-n-gt9218868437227405312.true) ∙ ap of_pattern (sym c.in_ok-n.was)

pub float_from_bits-result : goal.float_from_bits-result
float_from_bits-result c = no-nan-bits _ c.if-n-gt9218868437227405312.false
