-- The room, tested once; every line fits it. Assumes nothing.
use Rattle.text.proofs.Lays.{all_fit}
use Rattle.text.proofs.Fronts.{in_front_lem}
use Rattle.book.specs.Book.{tell_room}
use Rattle.book.proofs.Laws.{tell-by-fits}
use Rattle.book.proofs.tell_either.Goals as goal

pub returns : goal.returns
returns g c =
    in_front_lem {room = tell_room} c.if-buf-lt64.false (tell-by-fits _ c.args.t) (all_fit c.told.ensures)
