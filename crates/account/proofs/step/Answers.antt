-- The heading, what stands at a place, a vehicle, or nothing. Assumes nothing.
use Rattle.session.specs.Read.{start}
use Rattle.tracks.specs.Tracks.{heading_pieces, vehicle_pieces}
use Rattle.tracks.proofs.Lengths.{heading-fits, vehicle-fits}
use Rattle.account.specs.declared.Next.TheVariants.{At, Second, Done}
use Rattle.account.specs.Account.{step_of}
use Rattle.account.proofs.Steps.{made, nothing}
use Rattle.account.proofs.step.Goals as goal

pub returns-in-Heading : goal.returns-in-Heading
unfolding step_of
returns-in-Heading c =
    rw c.in-Heading.is (made heading_pieces (At start) c.args.p c.requires heading-fits c.heading.ensures)

pub returns-in-At : goal.returns-in-At
unfolding step_of
returns-in-At c = rw c.in-At.is c.step_at.ensures

pub returns-in-First : goal.returns-in-First
unfolding step_of
returns-in-First c =
    let p = c.args.p in
    rw c.in-First.is (made (vehicle_pieces 0 p.v0) Second p c.requires (vehicle-fits 0 p.v0) c.vehicle.ensures)

pub returns-in-Second : goal.returns-in-Second
unfolding step_of
returns-in-Second c =
    let p = c.args.p in
    rw c.in-Second.is (made (vehicle_pieces 1 p.v1) Done p c.requires (vehicle-fits 1 p.v1) c.vehicle-in-Second.ensures)

pub returns-in-Done : goal.returns-in-Done
unfolding step_of
returns-in-Done c =
    let a = c.args in
    rw c.in-Done.is (nothing a.line.now Done a.p)
