-- Each record is further on than the one before it.
use Rattle.std.proofs.Common.{arith}
use Rattle.script.proofs.Steps.{further}
use Rattle.show.proofs.Left.{less}
use Rattle.show.proofs.show.Goals as goal

pub loop-next-smaller : goal.loop-next-smaller
loop-next-smaller g c =
    rw c.in-Some.is (less c.args.s.now c.in-Some.place c.in-Ok.shown.next (further (omega arith) c.in-Ok.shown c.in-Ok.ensures))
