-- Each step is one of the calls of the law, and what is left of the input falls.
use Rattle.std.proofs.Common.{arith}
use Rattle.stream.proofs.Calls.{record-forth, offset-forth}
use Rattle.watch.proofs.Turns.{on-record, on-offset, on-stop}
use Rattle.watch.proofs.feed.Goals as goal

pub loop-step-smaller-in-Record : goal.loop-step-smaller-in-Record
loop-step-smaller-in-Record g c =
    let f = record-forth c.loop-step.x c.loop-step.room c.args.input.now c.loop-step.from _ c.in-Record.place c.in-Record.at c.in-Record.ensures.0 in
    omega (arith, f.0, f.1)

pub loop-step-preserved-in-Record : goal.loop-step-preserved-in-Record
loop-step-preserved-in-Record g c =
    on-record c.loop-step.invariant c.in-Record.ensures.1 _ c.in-Record.place c.in-Record.at c.in-Record.ensures.0

pub loop-step-smaller : goal.loop-step-smaller
loop-step-smaller g c =
    let f = offset-forth c.loop-step.x c.loop-step.room c.args.input.now c.loop-step.from c.in-Record.place c.in-Record.at c.in-Record.ensures.0 in
    omega (arith, f.0, f.1)

pub loop-step-preserved : goal.loop-step-preserved
loop-step-preserved g c =
    on-offset c.loop-step.invariant c.in-Record.ensures.1 c.in-Record.place c.in-Record.at c.in-Record.ensures.0

pub returns-in-Stopped : goal.returns-in-Stopped
returns-in-Stopped g c = on-stop c.loop-step.invariant c.in-Stopped.ensures.1 c.in-Stopped.y c.in-Stopped.ensures.0
