-- Every such line fits its buffer.
use Rattle.std.proofs.Common.{sym, length-take-le}
use Rattle.refusal.specs.Refusals.{number_of}
use Rattle.columns.proofs.RowLaws.{refused-fits}
use Rattle.history.proofs.Inside.{laid-inside}
use Rattle.history.proofs.refuse.Goals as goal

pub slice_bounds-out-end : goal.slice_bounds-out-end
slice_bounds-out-end g c = laid-inside c.refused-n.ensures (refused-fits (number_of c.args.refusal))

pub slice_bounds-print-end : goal.slice_bounds-print-end
slice_bounds-print-end g c = sym (length-take-le _ _ (laid-inside c.refused-n.ensures (refused-fits (number_of c.args.refusal))))
