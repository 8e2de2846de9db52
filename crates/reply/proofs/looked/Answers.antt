-- By the request; each arm is its routine's own answer. Assumes nothing.
use mathlib.Core.Path.{sym, ap, ◌∙◌}
use Rattle.text.proofs.Lays.{laid_as}
use Rattle.views.specs.Views.{wheel_pieces, sight_pieces}
use Rattle.reply.specs.Replies.{looked_of}
use Rattle.reply.proofs.looked.Goals as goal

pub returns-in-Wheel : goal.returns-in-Wheel
unfolding looked_of
returns-in-Wheel c = laid_as (ap wheel_pieces c.wheel.ensures ∙ ap looked_of (sym c.in-Wheel.is)) c.tell_wheel.ensures

pub returns-in-Sight : goal.returns-in-Sight
unfolding looked_of
returns-in-Sight c = laid_as (ap sight_pieces c.crossings.ensures ∙ ap looked_of (sym c.in-Sight.is)) c.tell_sight.ensures
