-- The room, tested once; every listing fits it. Assumes nothing.
use Rattle.text.proofs.Lays.{all_fit}
use Rattle.text.proofs.Fronts.{in_front_lem}
use Rattle.settings.specs.History.{look_up}
use Rattle.versions.specs.Versions.{list_room}
use Rattle.versions.proofs.Lengths.{list-fits}
use Rattle.versions.proofs.list.Goals as goal

pub returns : goal.returns
returns c =
    let s = c.args.s.now in
    in_front_lem {room = list_room} c.if-buf-lt16384.false (list-fits (look_up s 1) s) (all_fit c.listed.ensures)
