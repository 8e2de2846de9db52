-- Each line leaves fewer.
use Rattle.account.proofs.Steps.{line-inside}
use Rattle.account.proofs.Walk.{fewer}
use Rattle.refly.proofs.fly.Goals as goal

pub loop-t-smaller : goal.loop-t-smaller
loop-t-smaller g c =
    rw (line-inside c.in-Ok.ensures).after (fewer c.args.mu c.args.s.now c.loop-t.next c.loop-t.p c.loop-t.invariant)
