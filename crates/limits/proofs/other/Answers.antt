-- A NaN; a power of two by its bits; any other number. Assumes nothing.
use mathlib.Core.Path.{sym, ◌∙◌}
use Rattle.real.proofs.Patterns.{not-nan}
use Rattle.text.proofs.Lays.{one}
use Rattle.limits.specs.Limits.{other_pieces}
use Rattle.limits.proofs.Bounds.{other-nan}
use Rattle.limits.proofs.other.Goals as goal

pub returns-then-x : goal.returns-then-x
returns-then-x c = rw (other-nan c.args.x c.if-x.true) (one c.fixed.ensures)

pub float_to_bits-b : goal.float_to_bits-b
float_to_bits-b c = not-nan _ c.if-x.false

pub returns-then-is_power : goal.returns-then-is_power
unfolding other_pieces
returns-then-is_power c = rw (sym c.is_power.ensures ∙ c.if-is_power.true) c.power.ensures

pub returns : goal.returns
unfolding other_pieces
returns c = rw (sym c.is_power.ensures ∙ c.if-is_power.false) (one c.fixed-2.ensures)
