-- `why::advance`: the bracket that is told is sound. Assumes nothing.
use Rattle.std.proofs.Common.{sym, ◌∙◌}
use Rattle.iterator.proofs.Single.{sound_of_lem, more-is}
use Rattle.solve.specs.Ends.{turns_for}
use Rattle.solve.proofs.Sounds.{kepler-sound}
use Rattle.why.proofs.advance.Goals as goal

pub tell-requires : goal.tell-requires
tell-requires c =
    let a = c.args in
    let b = c.in-At.b in
    more-is (sound_of_lem (turns_for a.mu a.s a.t).rest b (kepler-sound a.mu a.s a.t a.limit a.g b (sym c.advance_ended.ensures ∙ c.in-At.is)))
