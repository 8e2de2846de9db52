-- The room, tested once; every line fits it. Assumes nothing.
use mathlib.Core.Path.{ap}
use Rattle.text.proofs.Lays.{all_fit, laid_as}
use Rattle.text.proofs.Fronts.{in_front_lem}
use Rattle.settings.specs.History.{look_up}
use Rattle.versions.specs.Versions.{show_room, looked_pieces}
use Rattle.versions.proofs.Lengths.{looked-fits}
use Rattle.versions.proofs.show.Goals as goal

pub returns : goal.returns
returns c =
    let a = c.args in
    let l = laid_as (ap (looked_pieces a.k) c.look_up.ensures) c.looked.ensures in
    in_front_lem {room = show_room} c.if-buf-lt512.false (looked-fits a.k (look_up a.s.now a.k)) (all_fit l)
