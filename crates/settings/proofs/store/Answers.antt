-- The cases of storing. Assumes nothing.
use Rattle.std.proofs.Common.{not, sym, ap, ◌∙◌, refl}
use borrow.Author.Tests.{not-true, not-false}
use Rattle.settings.specs.History.{buffer_after}
use Rattle.settings.proofs.Cases.{outside, not-whole, not-allowed}
use Rattle.settings.proofs.store.Goals.{then-used-buf-via-then-used-buf, then-used-buf-via-else-used-buf+then-not-is_whole}
use Rattle.settings.proofs.store.Goals as goal

pub returns-then-used-buf : goal.returns-then-used-buf
unfolding buffer_after
returns-then-used-buf c =
    let a = c.args in
    elim c.then-used-buf.branch [
      | then-used-buf-via-then-used-buf w ↦ (outside a.buf.now a.used a.x w.if-used-buf.true, refl)
      | then-used-buf-via-else-used-buf+then-not-is_whole w ↦
          (not-whole a.buf.now a.used a.x w.if-used-buf.false (sym w.is_whole.ensures ∙ not-true _ (ap not w.if-not-is_whole.true)), refl)
    ]

pub returns-in-Some : goal.returns-in-Some
unfolding buffer_after
returns-in-Some c =
    let a = c.args in
    let w = sym c.is_whole.ensures ∙ not-false _ (ap not c.if-not-is_whole.false) in
    (not-allowed a.buf.now a.used a.x c.if-used-buf.false w c.in-Some.refusal (sym c.refusal_of.ensures ∙ c.in-Some.is), refl)
