-- Short or not, a case or none, and then the trial. Assumes nothing.
use Rattle.std.proofs.Common.{refl}
use mir.Syntax.{w64}
use mir.Facts.{to_z-of_z}
use borrow.Author.Tests.{lt-leb, le-leb}
use Rattle.library_solves.specs.Solves.{trial_told}
use Rattle.lent.proofs.Gives.{left-wholes, short-wholes, enough-wholes}
use Rattle.library_solves.proofs.cabin_trial.Goals as goal

pub returns-then-whole-lt2 : goal.returns-then-whole-lt2
returns-then-whole-lt2 c = rw (lt-leb _ _ c.if-whole-lt2.true) (short-wholes _)

pub returns-then-jlo-gt3 : goal.returns-then-jlo-gt3
unfolding trial_told
returns-then-jlo-gt3 c = rw (le-leb _ _ c.if-whole-lt2.false, lt-leb _ _ c.if-jlo-gt3.true) (enough-wholes (left-wholes refl))

pub returns-then-jhi-gt3 : goal.returns-then-jhi-gt3
unfolding trial_told
returns-then-jhi-gt3 c = rw (le-leb _ _ c.if-whole-lt2.false, le-leb _ _ c.if-jlo-gt3.false, lt-leb _ _ c.if-jhi-gt3.true) (enough-wholes (left-wholes refl))

pub returns : goal.returns
unfolding trial_told
returns c =
    rw (le-leb _ _ c.if-whole-lt2.false, le-leb _ _ c.if-jlo-gt3.false, le-leb _ _ c.if-jhi-gt3.false)
    (enough-wholes (rw (c.trial.ensures, to_z-of_z {w = w64} {z = c.args.lo} c.ranges.lo, to_z-of_z {w = w64} {z = c.args.hi} c.ranges.hi, c.judgement_from-i.ensures, c.judgement_from-j.ensures) at c.give_trial.ensures))
