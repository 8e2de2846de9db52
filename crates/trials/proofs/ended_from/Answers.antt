-- `trials::ended_from`: the trials can begin at any bracket that passes row 6. Assumes nothing.
use Rattle.std.proofs.Common.{sym, ◌∙◌}
use Rattle.trials.proofs.Goes.{begun-begins}
use Rattle.trials.proofs.ended_from.Goals as goal

pub iterate-requires : goal.iterate-requires
iterate-requires g c =
    let a = c.args in
    let b = begun-begins a.problem a.asked a.g c.in-Ok.b (sym c.begin.ensures ∙ c.in-Ok.is) in
    record { on_grid = b.0; lower_end = b.1.0; upper_end = b.1.1.0; count_fits = b.1.1.1 }
