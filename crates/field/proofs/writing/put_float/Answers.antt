-- The NaN's pattern, or the number's own. Assumes nothing.
use mathlib.Core.Path.{◌≡◌, sym, ◌∙◌}
use lib.Ieee.{binary64, to_bits}
use Rattle.field.proofs.Nans.{nan-bits}
use Rattle.field.proofs.writing.put_float.Goals as goal
use Rattle.field.proofs.writing.put_float.Goals.{then-is_nan, else-is_nan}

pub returns : goal.returns
returns c =
    let e : c.if-is_nan.bits ≡ to_bits binary64 c.args.x =
    elim c.if-is_nan.branch [
      | then-is_nan w ↦ w.bits-is ∙ nan-bits c.args.x (sym c.is_nan.ensures.value ∙ w.if-is_nan.true)
      | else-is_nan w ↦ w.bits-is
    ] in
    rw e at c.put.ensures
