-- Every such line fits its buffer.
use Rattle.std.proofs.Common.{sym, length-take-le}
use Rattle.columns.proofs.RowLaws.{unread-fits}
use Rattle.history.proofs.Inside.{laid-inside}
use Rattle.history.proofs.unread.Goals as goal

pub slice_bounds-out-end : goal.slice_bounds-out-end
slice_bounds-out-end g c = laid-inside c.unread-n.ensures (unread-fits c.args.word)

pub slice_bounds-print-end : goal.slice_bounds-print-end
slice_bounds-print-end g c = sym (length-take-le _ _ (laid-inside c.unread-n.ensures (unread-fits c.args.word)))
