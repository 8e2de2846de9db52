-- `burn::in_line` meets its contract. Assumes nothing.
use mathlib.Core.Path.{sym, ap, ◌∙◌}
use Rattle.burn.specs.Burn.{moved_by, in_line_of}
use Rattle.burn.proofs.in_line.Goals as goal

pub returns-in-Time : goal.returns-in-Time
unfolding in_line_of moved_by
returns-in-Time c = let a = c.args in
    c.moved.ensures ∙ ap (moved_by a.mu a.s) (sym c.in-Time.is ∙ c.time_theta.ensures)

pub returns-in-TooLong : goal.returns-in-TooLong
unfolding in_line_of moved_by
returns-in-TooLong c = let a = c.args in
    ap (moved_by a.mu a.s) (sym c.in-TooLong.is ∙ c.time_theta.ensures)

pub returns-in-TooShort : goal.returns-in-TooShort
unfolding in_line_of moved_by
returns-in-TooShort c = let a = c.args in
    ap (moved_by a.mu a.s) (sym c.in-TooShort.is ∙ c.time_theta.ensures)

pub returns-in-Refused : goal.returns-in-Refused
unfolding in_line_of moved_by
returns-in-Refused c = let a = c.args in
    ap (moved_by a.mu a.s) (sym c.in-Refused.is ∙ c.time_theta.ensures)
