-- The tests ahead of the trials, with the times that a bracket to go on from carries (T-14). Assumes nothing: these are definitions.
use Rattle.std.specs.Prelude.{List, ◌++◌, Float}
use Rattle.table.specs.Tests.{Entry}
use Rattle.vector.specs.declared.Vector.{Vector}
use Rattle.vector.specs.declared.State.{State}
use Rattle.kepler.specs.declared.Motion.{Motion}
use Rattle.kepler.specs.Kepler as K
use Rattle.lambert.specs.declared.Way.{Way}
use Rattle.lambert.specs.declared.Transfer.{Transfer}
use Rattle.lambert.specs.Lambert as L
use Rattle.iterator.specs.declared.Beginning.{Beginning}
use Rattle.trials.specs.Carried.{times_input}

-- the tests ahead of row 6 of a continuation: its times stand last of all inputs
abbrev pub kepler_ahead : Float → State → Float → Motion → Beginning → List Entry
kepler_ahead mu s t m g = K.input_row mu s t ++ times_input g ++ K.range_rows mu s t m

abbrev pub lambert_ahead : Float → Vector → Vector → Way → Float → Transfer → Beginning → List Entry
lambert_ahead mu first second way t d g = L.input_row mu first second way t ++ times_input g ++ L.range_rows mu first second way t d
