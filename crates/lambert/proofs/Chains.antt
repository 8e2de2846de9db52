-- The code's chain of tests is the list's, whichever way round is asked. Assumes nothing.
use Rattle.std.specs.Prelude.{Result, Ok}
use mathlib.Core.Path.{◌≡◌, refl}
use lib.Ieee.{Float}
use Rattle.vector.specs.declared.Vector.{Vector}
use Rattle.table.specs.declared.Name.TheVariants.{First, Second, Time}
use Rattle.table.specs.Tests.{Entry, ◌▷◌}
use Rattle.rows.specs.Rows.{finite_number, finite_inputs, mu_row, transfer_time_row}
use Rattle.lambert.specs.declared.Way.{Way}
use Rattle.lambert.specs.declared.Way.TheVariants.{Short, Long, Normal}
use Rattle.lambert.specs.declared.Transfer.{Transfer}
use Rattle.lambert.specs.Lambert.{position_rows, normal_input, input_row, angle_row, derived_row, range_rows}

pub input-chain : (mu : Float) (first second : Vector) (way : Way) (t : Float)
    → (Ok tt ▷ finite_inputs mu First first Second second ▷ finite_number Time t ▷ normal_input way) ≡ (Ok tt ▷ input_row mu first second way t)
input-chain mu first second Short t = refl
input-chain mu first second Long t = refl
input-chain mu first second (Normal n) t = refl

pub range-chain : (test : Result Unit Entry) (mu : Float) (first second : Vector) (way : Way) (t : Float) (d : Transfer)
    → (test ▷ mu_row mu ▷ position_rows first second d ▷ transfer_time_row t ▷ angle_row way d ▷ derived_row d) ≡ (test ▷ range_rows mu first second way t d)
range-chain test mu first second Short t d = refl
range-chain test mu first second Long t d = refl
range-chain test mu first second (Normal n) t d = refl
