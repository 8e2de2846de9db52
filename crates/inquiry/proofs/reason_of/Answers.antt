-- `inquiry::reason_of` meets its contract: case by case. Assumes nothing.
use Rattle.inquiry.specs.Inquiry.{inquiry_of}
use Rattle.inquiry.proofs.reason_of.Goals as goal

pub returns-in-Kepler : goal.returns-in-Kepler
unfolding inquiry_of
returns-in-Kepler c = simp (c.in-Kepler.is, c.settled.ensures, c.advance.ensures)

pub returns-in-Lambert : goal.returns-in-Lambert
unfolding inquiry_of
returns-in-Lambert c = simp (c.in-Lambert.is, c.settled-in-Lambert.ensures, c.transfer_velocity.ensures)

pub returns-in-Theta : goal.returns-in-Theta
unfolding inquiry_of
returns-in-Theta c = simp (c.in-Theta.is, c.time_theta.ensures)

pub returns-in-Apsides : goal.returns-in-Apsides
unfolding inquiry_of
returns-in-Apsides c = simp (c.in-Apsides.is, c.periapo.ensures)
