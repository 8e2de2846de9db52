-- `wheel::table::entry` meets its contract: each entry of the table is the rule's, which antt computes, once over the whole.
-- Assumes nothing.
use Rattle.std.proofs.Common.{rules}
use Rattle.wheel.specs.Sines.{nest_of, sine_of, sine_entry}
use Rattle.wheel.proofs.Whole.{carried}
use Rattle.wheel.proofs.table.entry.Goals as goal

pub returns : goal.returns
unfolding nest_of sine_of sine_entry
returns c = carried sine_entry c.read.ensures tt (search rules)
