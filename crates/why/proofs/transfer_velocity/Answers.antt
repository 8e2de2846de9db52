-- `why::transfer_velocity`: the bracket that is told is sound. Assumes nothing.
use Rattle.std.proofs.Common.{sym, ◌∙◌}
use Rattle.iterator.proofs.Single.{sound_of_lem, more-is}
use Rattle.solve.proofs.Sounds.{lambert-sound}
use Rattle.why.proofs.transfer_velocity.Goals as goal

pub tell-requires : goal.tell-requires
tell-requires c =
    let a = c.args in
    let b = c.in-At.b in
    more-is (sound_of_lem a.t b (lambert-sound a.mu a.first a.second a.way a.t a.limit a.g b (sym c.transfer_ended.ensures ∙ c.in-At.is)))
