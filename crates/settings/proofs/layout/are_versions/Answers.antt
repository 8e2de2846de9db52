-- The loop has found the first i versions allowed, so that all are where those behind them are. Assumes nothing.
use Rattle.std.proofs.Common.{◌≡◌, ◌+◌, ◌-◌, ◌*◌, Bool, ◌&&◌, not, drop, sym, ap, ◌∙◌, arith, refl}
use borrow.Author.Tests.{not-true, not-false}
use Rattle.field.proofs.Fields.{rest}
use Rattle.settings.specs.Layout.{is_version, versions_from}
use Rattle.settings.proofs.Versions.{versions-first}
use Rattle.settings.proofs.layout.are_versions.Goals as goal

pub returns-then-not-is_version : goal.returns-then-not-is_version
returns-then-not-is_version c =
    let a = c.args in
    let i = c.loop-i.i in
    let s = a.s.now in
    sym
    (c.loop-i.invariant ∙ versions-first i a.n s c.loop-i-test.true
    ∙ ap (λ (b : Bool). b && versions_from (a.n - (i + 1)) (i + 1 + 1) (drop (44 * (i + 1)) s))
    (sym (ap (is_version (i + 1)) (rest s (44 * i))) ∙ sym c.is_version.ensures ∙ not-true _ (ap not c.if-not-is_version.true)))

pub loop-i-preserved : goal.loop-i-preserved
loop-i-preserved c =
    let a = c.args in
    let i = c.loop-i.i in
    let s = a.s.now in
    c.loop-i.invariant ∙ versions-first i a.n s c.loop-i-test.true
    ∙ ap (λ (b : Bool). b && versions_from (a.n - (i + 1)) (i + 1 + 1) (drop (44 * (i + 1)) s))
    (sym (ap (is_version (i + 1)) (rest s (44 * i))) ∙ sym c.is_version.ensures ∙ not-false _ (ap not c.if-not-is_version.false))

pub returns : goal.returns
unfolding versions_from
returns c =
    let z : c.args.n - c.loop-i.i ≡ 0 = omega arith in
    sym (c.loop-i.invariant ∙ rw z refl)
