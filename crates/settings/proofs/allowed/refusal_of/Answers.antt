-- The first test that fails, then the body. Assumes nothing.
use mathlib.Core.Path.{◌≡◌, refl, sym, ◌∙◌}
use borrow.Author.Tests.{lt-ltb, le-ltb}
use Rattle.std.specs.Prelude.{Ok, Err}
use Rattle.table.specs.Tests.{first_failing}
use Rattle.settings.specs.Allowed.{setting_tests, refusal_by}
use Rattle.settings.proofs.allowed.refusal_of.Goals as goal

pub returns-then-x-gt1 : goal.returns-then-x-gt1
unfolding refusal_by
returns-then-x-gt1 c =
    let x = c.args.x in
    let t : first_failing (setting_tests x) ≡ Ok c.in-Ok.field-0 = sym c.tests.ensures ∙ c.in-Ok.is in
    rw (t, lt-ltb 1 x.body c.if-x-gt1.true) refl

pub returns-in-Err : goal.returns-in-Err
unfolding refusal_by
returns-in-Err c =
    let x = c.args.x in
    let t : first_failing (setting_tests x) ≡ Err c.in-Err.e = sym c.tests.ensures ∙ c.in-Err.is in
    rw t refl

pub returns-else-x-gt1 : goal.returns-else-x-gt1
unfolding refusal_by
returns-else-x-gt1 c =
    let x = c.args.x in
    let t : first_failing (setting_tests x) ≡ Ok c.in-Ok.field-0 = sym c.tests.ensures ∙ c.in-Ok.is in
    rw (t, le-ltb 1 x.body c.if-x-gt1.false) refl
