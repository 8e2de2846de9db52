-- All or none. Assumes nothing.
use borrow.Author.Tests.{lt-leb, le-leb}
use Rattle.lent.specs.Given.{put_in}
use Rattle.lent.proofs.putting.put.Goals.{else-n-le-MOST-via-then-n-le-MOST+else-n-out, else-n-le-MOST-via-else-n-le-MOST}
use Rattle.lent.proofs.putting.put.Goals as goal

pub returns-then-n-out : goal.returns-then-n-out
unfolding put_in
returns-then-n-out g c = rw (le-leb _ _ c.if-n-le-MOST.true, le-leb _ _ c.if-n-out.true) (rw c.copy_from_slice.ensures.after)

pub returns-else-n-le-MOST : goal.returns-else-n-le-MOST
unfolding put_in
returns-else-n-le-MOST g c = elim c.else-n-le-MOST.branch [ else-n-le-MOST-via-then-n-le-MOST+else-n-out w ↦ rw (le-leb _ _ w.if-n-le-MOST.true, lt-leb _ _ w.if-n-out.false) | else-n-le-MOST-via-else-n-le-MOST w ↦ rw (lt-leb _ _ w.if-n-le-MOST.false) ]
