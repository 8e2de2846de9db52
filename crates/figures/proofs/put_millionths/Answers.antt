-- `put_millionths`: four texts, one behind the other, in room that is always enough.
use lib.Dec.{lit≤}
use Rattle.figures.proofs.Places.{pointed}
use Rattle.text.proofs.Stand.{then}
use Rattle.figures.proofs.put_millionths.Goals as goal

pub put_places-requires : goal.put_places-requires
put_places-requires c =
    let a = c.args in
    let p = pointed a.minus a.n c.requires.0 c.requires.1 c.sign-a.ensures c.number-b.ensures c.byte-c.ensures in
    (p.1, lit≤ tt, lit≤ tt)

pub returns : goal.returns
returns c =
    let a = c.args in
    let p = pointed a.minus a.n c.requires.0 c.requires.1 c.sign-a.ensures c.number-b.ensures c.byte-c.ensures in
    then p.0 c.put_places.ensures
