-- Every number tried by hand is what the definitions give: computed. Assumes nothing.
use mathlib.Core.Path.{◌≡◌, refl}
use mathlib.Core.Bool.{true}
use lib.Ieee.{add, sub, mul, div, neg, lt, le, eq, of_bits, to_bits, of_int, to_unsigned}
use Rattle.root.specs.Root.{root_of, root_answer}
use Rattle.series.specs.Series.{nest, c_series, s_series, small, c_quarter, s_quarter, c_at, s_at, in_range, answer, both_answer}
use Rattle.table.specs.Tests.{first_failing}
use Rattle.conic.specs.Conic.{trial_of, point_at}
use Rattle.iterator.specs.Judged.{in_time, judged_of}
use Rattle.iterator.specs.Rule.{by_times, stride_of}
use Rattle.iterator.specs.Run.{ran_for, ran}
use Rattle.kepler.specs.Kepler.{judged_trial}
use Rattle.apsides.specs.Apsides.{radicand_of, distances_of, answered}
use Rattle.by_hand.specs.Rows.{rows, all}

tried : all rows ≡ true
unfolding
    rows root_of root_answer nest c_series s_series small c_quarter s_quarter c_at s_at in_range answer both_answer
    first_failing trial_of point_at in_time judged_of by_times stride_of ran_for ran judged_trial radicand_of distances_of answered
    add sub mul div neg lt le eq of_bits to_bits of_int to_unsigned
tried = refl
