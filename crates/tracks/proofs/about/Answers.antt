-- By the body. Assumes nothing.
use borrow.Author.Tests.{ne_eqb}
use Rattle.tracks.specs.Tracks.{about_text}
use Rattle.tracks.proofs.about.Goals as goal

pub returns-then-body-eq0 : goal.returns-then-body-eq0
unfolding about_text
returns-then-body-eq0 c = rw c.if-body-eq0.true c.bytes.ensures

pub returns-else-body-eq0 : goal.returns-else-body-eq0
unfolding about_text
returns-else-body-eq0 c = rw (ne_eqb c.args.body 0 c.if-body-eq0.false) c.bytes-else-body-eq0.ensures
