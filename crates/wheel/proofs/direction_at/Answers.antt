-- `wheel::direction_at` meets its contract. Assumes nothing.
use Rattle.std.proofs.Common.{ℕ, ◌<◌, sym, subst, arith}
use Rattle.wheel.proofs.Quadrants.{on_below}
use Rattle.wheel.proofs.direction_at.Goals as goal

pub signed_sine-requires-2 : goal.signed_sine-requires-2
signed_sine-requires-2 c =
    subst (λ (k : ℕ). k < 3600) (sym c.quarter_on.ensures) (on_below 900 c.args.e (omega arith) c.requires)
