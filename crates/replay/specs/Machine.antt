-- The plain machine: it takes the records one after another. Assumes nothing: these are definitions.
use Rattle.std.specs.Prelude.{List, [], ◌∷◌}
use Rattle.session.specs.declared.record.Record.{Record}
use Rattle.flight.specs.declared.Mu.{Mu}
use Rattle.replay.specs.declared.Replay.{Replay}
use Rattle.replay.specs.Replay.{step_of}

-- the vehicles after the records
unfoldable pub after_of : Mu → Replay → List Record → Replay
after_of mu p [] = p
after_of mu p (r ∷ rs) = after_of mu (step_of mu p r).replay rs
