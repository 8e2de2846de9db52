-- By the solve; each arm is its routine's own answer. Assumes nothing.
use mathlib.Core.Path.{sym, ap, ◌∙◌}
use Rattle.text.proofs.Lays.{laid_as}
use Rattle.answers.specs.Answers.{timed_pieces, apsides_pieces}
use Rattle.solutions.specs.Solutions.{advanced_pieces, transferred_pieces}
use Rattle.reply.specs.Replies.{solved_of}
use Rattle.reply.proofs.solved.Goals as goal

pub returns-in-Kepler : goal.returns-in-Kepler
unfolding solved_of
returns-in-Kepler c = laid_as (ap advanced_pieces c.advanced.ensures ∙ ap (solved_of _) (sym c.in-Kepler.is)) c.tell_advance.ensures

pub returns-in-Lambert : goal.returns-in-Lambert
unfolding solved_of
returns-in-Lambert c = laid_as (ap transferred_pieces c.transferred.ensures ∙ ap (solved_of _) (sym c.in-Lambert.is)) c.tell_transfer.ensures

pub returns-in-Theta : goal.returns-in-Theta
unfolding solved_of
returns-in-Theta c = laid_as (ap timed_pieces c.time_theta.ensures ∙ ap (solved_of _) (sym c.in-Theta.is)) c.tell_time.ensures

pub returns-in-Apsides : goal.returns-in-Apsides
unfolding solved_of
returns-in-Apsides c = laid_as (ap apsides_pieces c.periapo.ensures ∙ ap (solved_of _) (sym c.in-Apsides.is)) c.tell_apsides.ensures
