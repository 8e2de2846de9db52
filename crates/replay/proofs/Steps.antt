-- A step's parts by name. Assumes nothing.
use Rattle.replay.specs.declared.Replay.{Replay}
use Rattle.replay.specs.declared.Stepped.{Stepped}
use Rattle.replay.specs.Replay.{Answer}

abbrev pub stepped : Replay → Answer → Stepped
stepped p a = record { replay = p; answer = a }
