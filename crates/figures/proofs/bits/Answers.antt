-- `bits`: the 17 bytes are made in a local line and put from there.
use lib.Dec.{lit≤}
use Rattle.real.proofs.Patterns.{not-nan}
use Rattle.text.proofs.Stand.{then}
use Rattle.figures.proofs.Places.{front}
use Rattle.figures.proofs.Sizes.{bits-nan, bits-else}
use Rattle.figures.proofs.bits.Goals as goal

pub returns-then-x : goal.returns-then-x
returns-then-x c = rw (bits-nan c.args.x c.if-x.true) c.bytes.ensures

pub float_to_bits-b : goal.float_to_bits-b
float_to_bits-b c = not-nan _ c.if-x.false

pub returns : goal.returns
returns c =
    let x = c.args.x in
    let p = c.byte-a.ensures.fits (lit≤ tt) in
    let f = front (then p c.put_places-n.ensures) in
    rw (bits-else x (not-nan x c.if-x.false), ← f) c.bytes-2.ensures
