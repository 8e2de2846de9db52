-- Short or not, and then the settings. Assumes nothing.
use mathlib.Core.Path.{refl}
use borrow.Author.Tests.{lt-leb, le-leb}
use Rattle.lent.proofs.Gives.{short-wholes, enough-wholes}
use Rattle.library_settings.proofs.cabin_store.Goals as goal

pub returns-then-whole-lt2 : goal.returns-then-whole-lt2
returns-then-whole-lt2 c = rw (lt-leb _ _ c.if-whole-lt2.true) (short-wholes _, refl)

pub returns : goal.returns
returns c =
    let e = c.store.ensures in
    rw (le-leb _ _ c.if-whole-lt2.false) (enough-wholes (rw e.0 at c.give_stored.ensures), rw e.0 at e.1)
