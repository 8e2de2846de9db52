-- Each turn puts one more line behind those made; the measure is how many steps are left. Assumes nothing.
use mathlib.Core.Path.{sym, ◌∙◌}
use Rattle.report.proofs.Parts.{full, done, more, one_less}
use Rattle.report.proofs.fill_lines.Goals as goal

pub returns-then-is_done : goal.returns-then-is_done
returns-then-is_done c = done c.loop-out.invariant (sym c.is_done.ensures ∙ c.if-is_done.true)

pub loop-out-smaller : goal.loop-out-smaller
loop-out-smaller c =
    let o = sym c.is_done.ensures ∙ c.if-is_done.false in
    one_less c.args.s.now c.loop-out.state c.step-t.result.next o c.step-t.ensures.after

pub loop-out-preserved : goal.loop-out-preserved
loop-out-preserved c =
    let l = c.loop-out.invariant in
    let o = sym c.is_done.ensures ∙ c.if-is_done.false in
    let p = more l c.loop-out-test.true o c.step-t.ensures c.step-t.auto.line in
    p

pub returns-after-loop-out : goal.returns-after-loop-out
returns-after-loop-out c = full c.loop-out.invariant c.loop-out-test.false
