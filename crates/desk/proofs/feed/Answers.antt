-- Each line is answered; what is left of the input falls.
use Rattle.desk.proofs.Feeds.{on_line, on-kept}
use Rattle.desk.proofs.feed.Goals as goal

pub loop-n-preserved : goal.loop-n-preserved
loop-n-preserved g c =
    let x = on_line c.loop-n.invariant c.next_line.ensures.1 c.in-Line.n c.in-Line.at c.in-Line.ensures.0 in
    x.3

pub returns-in-Kept : goal.returns-in-Kept
returns-in-Kept g c =
    let x = on-kept c.loop-n.invariant c.next_line.ensures.1 c.in-Kept.n c.in-Kept.ensures.0 in
    (x.1, x.2)
