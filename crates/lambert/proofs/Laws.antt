-- What the judge answers is under, over or a computed time judged; the refusal number of the tests is the first row's that applies,
-- and 1 where an input is infinite or not a number; a velocity in range is finite. Assumes nothing.
use Rattle.std.specs.Prelude.{Ok}
use Rattle.refusal.specs.declared.Refusal.TheVariants as Refusal
use mathlib.Core.Path.{◌≡◌, refl, ap, ◌∙◌}
use mathlib.Core.Bool.{Bool, true, false, cond, ◌&&◌}
use mathlib.Core.List.{List, ◌++◌}
use lib.IntN.{ℤ}
use lib.Ieee.{Float}
use Rattle.real.specs.F64.{finite}
use Rattle.vector.specs.declared.Vector.{Vector}
use Rattle.vector.specs.Vectors.{dot_of, length_of, divided_of}
use Rattle.table.specs.declared.Name.TheVariants.{First, Second, Velocity, Time}
use Rattle.table.specs.Tests.{Entry, first_failing, all_meet, test_number, first_row, table_order, ordered}
use Rattle.rows.specs.Rows.{finite_number, finite_inputs}
use Rattle.table.proofs.Laws.{is_row, all_met_lem, meet-both, first_row_lem, row-then}
use Rattle.rows.proofs.Components.{Finite, velocity-finite}
use Rattle.rows.proofs.Inputs.{all_finite, inputs-finite, one_more}
use Rattle.conic.specs.Conic.{grid_of}
use Rattle.iterator.proofs.Single.{Told, under, over, timed}
use Rattle.reach.specs.declared.Reached.{Reached}
use Rattle.reach.specs.declared.Reached.TheVariants as R
use Rattle.lambert.specs.declared.Way.{Way}
use Rattle.lambert.specs.declared.Way.TheVariants.{Short, Long, Normal}
use Rattle.lambert.specs.declared.Transfer.{Transfer}
use Rattle.lambert.specs.Lambert.{turn_of, shared_of, transfer_of, normal_input, range_rows, lambert_tests, reach_at, judged_reach, lambert_judge, result_row}

-- ---- the judge

judged-told : (asked : Float) (r : Reached) → Told asked (judged_reach asked r)
unfolding judged_reach
judged-told asked (R.Time t) = timed t
judged-told asked (R.Under e) = under
judged-told asked (R.Over e) = over

pub lambert-told : (d : Transfer) (asked : Float) (n : ℤ) → Told asked (lambert_judge d asked n)
lambert-told d asked n = judged-told asked (reach_at d (grid_of n))

-- ---- the number of the first row that applies, in the order of the table

pub lambert-table : (mu : Float) (first second : Vector) (way : Way) (t : Float) (d : Transfer)
    → test_number (first_failing (lambert_tests mu first second way t d)) ≡ first_row table_order (lambert_tests mu first second way t d)
lambert-table mu first second way t d = first_row_lem table_order (lambert_tests mu first second way t d) (in_order way)
  where
    in_order : (w : Way) → ordered table_order (lambert_tests mu first second w t d) ≡ true
    in_order Short = refl
    in_order Long = refl
    in_order (Normal n) = refl

-- ---- an input that is infinite or not a number is refused with 1, whatever else holds

-- the numbers of a normal that is given
abbrev pub way_finite : Way → Bool
way_finite Short = true
way_finite Long = true
way_finite (Normal n) = all_finite n

way-met : (way : Way) → all_meet (normal_input way) ≡ way_finite way
way-met Short = refl
way-met Long = refl
way-met (Normal n) = go (finite n.x) (finite n.y) (finite n.z)
  where
    go : (x y z : Bool) → (x && (y && (z && true))) ≡ (x && y && z)
    go false y z = refl
    go true false z = refl
    go true true false = refl
    go true true true = refl

module _ (mu : Float) (first second : Vector) (t : Float) (d : Transfer) where
  abbrev inputs : List Entry
  inputs = finite_inputs mu First first Second second ++ finite_number Time t

  known : (way : Way) → all_meet (inputs ++ normal_input way) ≡ (finite mu && all_finite first && all_finite second && finite t && way_finite way)
  known way =
      meet-both inputs (normal_input way)
      ∙ ap (λ (b : Bool). b && all_meet (normal_input way)) (meet-both (finite_inputs mu First first Second second) (finite_number Time t) ∙ one_more (inputs-finite mu First Second first second) (finite t))
      ∙ ap (λ (b : Bool). (finite mu && all_finite first && all_finite second && finite t) && b) (way-met way)

  refused : (way : Way) (behind : List Entry) → is_row 1 (inputs ++ normal_input way) ≡ true → (finite mu && all_finite first && all_finite second && finite t && way_finite way) ≡ false
      → test_number (first_failing ((inputs ++ normal_input way) ++ behind)) ≡ 1
  refused way behind r h = row-then 1 (inputs ++ normal_input way) behind r ∙ ap (λ (b : Bool). cond b (test_number (first_failing behind)) 1) (known way ∙ h)

  pub lambert-not-finite : (way : Way) → (finite mu && all_finite first && all_finite second && finite t && way_finite way) ≡ false
      → test_number (first_failing (lambert_tests mu first second way t d)) ≡ 1
  lambert-not-finite Short h = refused Short (range_rows mu first second Short t d) refl h
  lambert-not-finite Long h = refused Long (range_rows mu first second Long t d) refl h
  lambert-not-finite (Normal n) h = refused (Normal n) (range_rows mu first second (Normal n) t d) refl h

-- ---- the short way's own normal, given: all that the trials share is the same but sinθ, and what is made of it

module _ (mu : Float) (first second : Vector) where
  abbrev short : Transfer
  short = transfer_of mu first second Short

  abbrev given : Transfer
  given = transfer_of mu first second (Normal short.normal)

  -- (u1×u2)·normal need not be |u1×u2| to the bit; where it is, the two forms are one
  pub own-normal : given.sin ≡ short.sin → given ≡ short
  unfolding transfer_of turn_of
  own-normal h =
      let r1 = length_of first in
      let r2 = length_of second in
      let u1 = divided_of first r1 in
      let u2 = divided_of second r2 in
      ap (λ (x : Float). shared_of mu r1 r2 u1 (dot_of u1 u2) (record { size = short.size; sin = x; normal = short.normal })) h

-- ---- a velocity in the range of row 9 is finite

pub velocity-in-range : (v : Vector) → first_failing (result_row v) ≡ Ok tt → Finite v
velocity-in-range v h = velocity-finite Refusal.ResultOutOfRange Velocity v (all_met_lem (result_row v) h)
