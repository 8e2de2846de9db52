-- Each line leaves fewer.
use Rattle.std.proofs.Common.{◌≡◌, false}
use Rattle.account.specs.Account.{is_done}
use Rattle.account.proofs.Walk.{need}
use Rattle.refly.proofs.fly.Given as goal

abbrev pub invariant-loop-t : goal.invariant-loop-t
invariant-loop-t g l = is_done l.next ≡ false

abbrev pub decreases-loop-t : goal.decreases-loop-t
decreases-loop-t g l = need l.s l.next
