-- Each fill takes one step at least, so that fewer are left.
use Rattle.std.proofs.Common.{length}
use Rattle.report.proofs.Fillings.{lines-room, lines-fill}
use Rattle.report.proofs.Whole.{goes_on}
use Rattle.listing.proofs.list.Goals as goal

pub loop-f-smaller : goal.loop-f-smaller
loop-f-smaller g c =
    rw (lines-fill c.in-Ok.ensures).after (goes_on c.args.s.now (length c.loop-f.out) c.loop-f.next (lines-room c.in-Ok.ensures) c.loop-f.invariant)
