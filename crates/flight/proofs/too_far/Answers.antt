-- Too far where the exact difference of the two times is too long. Assumes nothing.
use Rattle.std.specs.Prelude.{is_some}
use Rattle.std.proofs.Common.{sym, ap, ◌∙◌, rules, to_z-of_z, w64, SFits}
use Rattle.flight.proofs.Flights.{far-tested}
use Rattle.flight.proofs.too_far.Goals as goal

pub returns : goal.returns
returns c =
    let f : SFits w64 c.args.f.time = search rules in
    let b = rw (to_z-of_z f, to_z-of_z c.ranges.time) at c.between.ensures in
    far-tested c.args.f c.args.time c.is_none.result (sym (ap is_some b) ∙ c.is_none.ensures)
