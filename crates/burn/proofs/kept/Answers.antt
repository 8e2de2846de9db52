-- `burn::kept` meets its contract. Assumes nothing.
use Rattle.burn.specs.Burn.{kept_of}
use Rattle.burn.proofs.kept.Goals as goal

pub returns-in-Found : goal.returns-in-Found
unfolding kept_of
returns-in-Found c = rw c.in-Found.is

pub returns-in-TooLong : goal.returns-in-TooLong
unfolding kept_of
returns-in-TooLong c = rw c.in-TooLong.is

pub returns-in-NotFinished : goal.returns-in-NotFinished
unfolding kept_of
returns-in-NotFinished c = rw c.in-NotFinished.is

pub returns-in-Refused : goal.returns-in-Refused
unfolding kept_of
returns-in-Refused c = rw c.in-Refused.is
