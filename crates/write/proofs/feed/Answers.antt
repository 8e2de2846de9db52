-- Each line is entered; what is left of the input falls.
use Rattle.std.proofs.lemmas.Result.{err_from_is_err_and}
use Rattle.write.proofs.Turned.{on, ends, rest}
use Rattle.write.proofs.feed.Goals as goal

pub returns-in_err-progress-in-Line : goal.returns-in_err-progress-in-Line
returns-in_err-progress-in-Line c =
    let p = err_from_is_err_and c.from_residual.result c.from_residual.ensures.1 in
    rw (p.1, p.2) (
      tt,
      ends c.loop-size.invariant c.next_line.ensures.1 c.in-Line.size c.in-Line.behind c.in-Line.ensures.0 c.add_by_number.ensures.0 c.add_by_number.ensures.1 _ c.in_err-progress-in-Line.was,
    )

pub loop-size-preserved : goal.loop-size-preserved
loop-size-preserved c =
    on c.loop-size.invariant c.next_line.ensures.1 c.in-Line.size c.in-Line.behind c.in-Line.ensures.0 c.add_by_number.ensures.0 c.add_by_number.ensures.1 c.in_ok-progress-in-Line.progress c.in_ok-progress-in-Line.was c.add_by_number.auto.session

pub returns-in-Kept : goal.returns-in-Kept
returns-in-Kept c =
    let x = rest c.loop-size.invariant c.next_line.ensures.1 c.in-Kept.size c.in-Kept.ensures.0 in
    ((x.1, c.loop-size.invariant.within), x.2)
