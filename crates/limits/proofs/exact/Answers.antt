-- A NaN by its one pattern; else the bits as they are shown everywhere. Assumes nothing.
use mathlib.Core.Path.{sym}
use Rattle.real.proofs.Patterns.{not-nan}
use Rattle.figures.proofs.Sizes.{bits-else}
use Rattle.limits.specs.Limits.{exact_of}
use Rattle.limits.proofs.Bounds.{exact-nan}
use Rattle.limits.proofs.exact.Goals as goal

pub returns-then-x : goal.returns-then-x
returns-then-x c = rw (exact-nan c.args.x c.if-x.true) c.bytes.ensures

pub returns : goal.returns
unfolding exact_of
returns c = rw (sym (bits-else c.args.x (not-nan _ c.if-x.false))) c.bits.ensures
