-- By the numbers, and by the word behind them. Assumes nothing.
use Rattle.forms.proofs.Rows.{only-all, only-more}
use Rattle.forms.proofs.parts.only_numbers.Goals as goal

pub returns-then-is_end-clause-read : goal.returns-then-is_end-clause-read
returns-then-is_end-clause-read c = only-all _ _ _ _ c.in_ok-numbers.ensures.read (rw (← c.from.ensures) c.is_end.ensures) c.if-is_end.true

pub returns-clause-read : goal.returns-clause-read
returns-clause-read c = rw c.from.ensures (only-more _ _ _ _ c.in_ok-numbers.ensures.read (rw (← c.from.ensures) c.is_end.ensures) c.if-is_end.false)
