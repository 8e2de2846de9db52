-- A version more each turn. Assumes nothing.
use Rattle.std.proofs.Common.{sym, ◌∙◌, arith}
use Rattle.versions.proofs.Lists.{lines_start, lines_more, lines-stop, lines_end}
use Rattle.versions.proofs.lines.Goals as goal

pub loop-k-init : goal.loop-k-init
loop-k-init c = lines_start c.args.buf.now c.args.s.now

pub loop-k-preserved : goal.loop-k-preserved
loop-k-preserved c = lines_more c.in-Ok.x c.loop-k.invariant (omega arith) (sym c.look_up.ensures ∙ c.in-Ok.is) c.version-e.ensures

pub returns-in-Err : goal.returns-in-Err
returns-in-Err c = lines-stop _ c.loop-k.invariant (omega arith) (sym c.look_up.ensures ∙ c.in-Err.is)

pub returns : goal.returns
returns c = lines_end c.loop-k.invariant (omega arith)
