-- 1 of the times that a bracket to go on from carries (T-14). Assumes nothing: these are definitions.
use Rattle.std.specs.Prelude.{List, [], ◌++◌}
use Rattle.table.specs.declared.Name.{Name}
use Rattle.table.specs.declared.Name.TheVariants.{Lo, Hi}
use Rattle.table.specs.Tests.{Entry}
use Rattle.rows.specs.Rows.{finite_number}
use Rattle.iterator.specs.declared.Judgement.{Judgement}
use Rattle.iterator.specs.declared.Judgement.TheVariants.{Low, High, Under, Over}
use Rattle.iterator.specs.declared.Beginning.{Beginning}
use Rattle.iterator.specs.declared.Beginning.TheVariants.{Start, Stopped}

-- 1, of the time that a judgement carries
abbrev pub time_input : Name → Judgement → List Entry
time_input name (Low t) = finite_number name t
time_input name (High t) = finite_number name t
time_input name Under = []
time_input name Over = []

-- lo's and then hi's
abbrev pub times_input : Beginning → List Entry
times_input Start = []
times_input (Stopped b) = time_input Lo b.below ++ time_input Hi b.above
