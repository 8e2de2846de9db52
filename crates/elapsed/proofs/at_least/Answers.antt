-- `elapsed::at_least` meets its contract. Assumes nothing.
use Rattle.std.proofs.Common.{leb, sym, ap, ◌∙◌, to_z-of_z}
use Rattle.elapsed.specs.Elapsed.{at_least}
use Rattle.elapsed.proofs.Raised.{size_is}
use Rattle.elapsed.proofs.Signs.{least-earlier, least-later}
use Rattle.elapsed.proofs.at_least.Goals as goal

pub returns-then-from-to : goal.returns-then-from-to
unfolding at_least
returns-then-from-to c =
    let a = c.args in
    let p = to_z-of_z c.ranges.from in
    let q = to_z-of_z c.ranges.to in
    ap (leb a.cs) ((rw (p, q) at c.apart.ensures) ∙ sym (size_is a.from a.to c.ranges.from.sfits c.ranges.to.sfits)) ∙ least-later a.from a.to a.cs (rw (p, q) at c.if-from-to.true)

pub returns-else-from-to : goal.returns-else-from-to
unfolding at_least
returns-else-from-to c =
    let a = c.args in
    let p = to_z-of_z c.ranges.from in
    let q = to_z-of_z c.ranges.to in
    c.if-from-to.false ∙ sym (least-earlier a.from a.to a.cs (rw (p, q) at c.if-from-to.false))
