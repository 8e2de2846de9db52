-- The line fits the room. Assumes nothing.
use Rattle.text.proofs.Fronts.{in_front_lem}
use Rattle.text.proofs.Lays.{all_fit}
use Rattle.lines.specs.Lines.{line_room}
use Rattle.lines.proofs.Sizes.{refused-fits}
use Rattle.lines.proofs.line.refused_line.Goals as goal

pub returns : goal.returns
returns c =
    in_front_lem {room = line_room} c.if-buf-lt40.false (refused-fits c.args.number c.args.at c.ranges.number.fits c.ranges.at.fits) (all_fit c.refused_at.ensures)
