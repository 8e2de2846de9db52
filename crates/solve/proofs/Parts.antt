-- The tests of a solve in parts: with those of a continuation among them they say what the whole list says. Assumes nothing.
use Rattle.std.specs.Prelude.{Ok, Err}
use mathlib.Core.Path.{◌≡◌, refl, ap, ◌∙◌}
use mathlib.Core.Bool.{true}
use mathlib.Core.List.{List, [], ◌∷◌, ◌++◌}
use lib.Ieee.{Float}
use Rattle.facts.proofs.Truth.{both}
use Rattle.vector.specs.declared.Vector.{Vector}
use Rattle.vector.specs.declared.State.{State}
use Rattle.table.specs.Tests.{Entry, first_failing, all_meet}
use Rattle.table.proofs.Laws.{reason, reason-only, all_met_lem, none-fails, met-then, meet-both, met-left, met-right}
use Rattle.kepler.specs.declared.Motion.{Motion}
use Rattle.kepler.specs.Kepler as K
use Rattle.lambert.specs.declared.Way.{Way}
use Rattle.lambert.specs.declared.Transfer.{Transfer}
use Rattle.lambert.specs.Lambert as L
use Rattle.iterator.specs.declared.Beginning.{Beginning}
use Rattle.iterator.specs.declared.Beginning.TheVariants.{Start}
use Rattle.trials.specs.Carried.{times_input}
use Rattle.solve.specs.Ahead.{kepler_ahead, lambert_ahead}

-- a test that fails is the first that does, whatever stands behind it
pub failed-then : (xs ys : List Entry) (e : Entry) → first_failing xs ≡ Err e → first_failing (xs ++ ys) ≡ Err e
failed-then xs ys e h =
    let r = reason xs e h in
    reason-only (xs ++ ys) e
    (record {
      ahead = r.ahead;
      rest = r.rest ++ ys;
      stands = ap (λ (l : List Entry). l ++ ys) r.stands ∙ joined r.ahead r.rest;
      met = r.met;
      fails = r.fails;
    })
  where
    joined : (a b : List Entry) → (a ++ (e ∷ b)) ++ ys ≡ a ++ (e ∷ (b ++ ys))
    joined [] b = refl
    joined (x ∷ a) b = ap (λ (l : List Entry). x ∷ l) (joined a b)

-- where row 1 and the ranges are met with other inputs between them, they are met
between : (a b c : List Entry) → all_meet (a ++ b ++ c) ≡ true → all_meet (a ++ c) ≡ true
between a b c h =
    let ab = met-left (a ++ b) c h in
    meet-both a c ∙ both (all_meet a) (all_meet c) (met-left a b ab) (met-right (a ++ b) c h)

-- and with those met too
among : (a b c : List Entry) → all_meet b ≡ true → all_meet (a ++ c) ≡ true → all_meet (a ++ b ++ c) ≡ true
among a b c h k =
    meet-both (a ++ b) c
    ∙ both (all_meet (a ++ b)) (all_meet c) (meet-both a b ∙ both (all_meet a) (all_meet b) (met-left a c k) h) (met-right a c k)

module _ (mu : Float) (s : State) (t : Float) (m : Motion) where
  pub kepler-whole : (g : Beginning) → first_failing (kepler_ahead mu s t m g) ≡ Ok tt → first_failing (K.fall_row mu s m.orbit.r1) ≡ Ok tt
      → first_failing (K.kepler_tests mu s t m) ≡ Ok tt
  kepler-whole g h k =
      let a = between (K.input_row mu s t) (times_input g) (K.range_rows mu s t m) (all_met_lem (kepler_ahead mu s t m g) h) in
      met-then (K.input_row mu s t ++ K.range_rows mu s t m) (K.fall_row mu s m.orbit.r1) a ∙ k

  pub kepler-among : (g : Beginning) → all_meet (times_input g) ≡ true → first_failing (K.kepler_tests mu s t m) ≡ Ok tt → first_failing (kepler_ahead mu s t m g) ≡ Ok tt
  kepler-among g h k =
      let a = met-left (K.input_row mu s t ++ K.range_rows mu s t m) (K.fall_row mu s m.orbit.r1) (all_met_lem (K.kepler_tests mu s t m) k) in
      none-fails (kepler_ahead mu s t m g) (among (K.input_row mu s t) (times_input g) (K.range_rows mu s t m) h a)

-- nothing stands between them at the start
alone : (a c : List Entry) → (a ++ []) ++ c ≡ a ++ c
alone a c = ap (λ (l : List Entry). l ++ c) (end a)
  where
    end : (a : List Entry) → a ++ [] ≡ a
    end [] = refl
    end (e ∷ a) = ap (λ (l : List Entry). e ∷ l) (end a)

module _ (mu : Float) (first second : Vector) (way : Way) (t : Float) (d : Transfer) where
  pub lambert-start : first_failing (lambert_ahead mu first second way t d Start) ≡ first_failing (L.lambert_tests mu first second way t d)
  lambert-start = ap first_failing (alone (L.input_row mu first second way t) (L.range_rows mu first second way t d))

  pub lambert-whole : (g : Beginning) → first_failing (lambert_ahead mu first second way t d g) ≡ Ok tt → first_failing (L.lambert_tests mu first second way t d) ≡ Ok tt
  lambert-whole g h =
      none-fails (L.lambert_tests mu first second way t d)
      (between (L.input_row mu first second way t) (times_input g) (L.range_rows mu first second way t d) (all_met_lem (lambert_ahead mu first second way t d g) h))

  pub lambert-among : (g : Beginning) → all_meet (times_input g) ≡ true → first_failing (L.lambert_tests mu first second way t d) ≡ Ok tt → first_failing (lambert_ahead mu first second way t d g) ≡ Ok tt
  lambert-among g h k =
      none-fails (lambert_ahead mu first second way t d g)
      (among (L.input_row mu first second way t) (times_input g) (L.range_rows mu first second way t d) h (all_met_lem (L.lambert_tests mu first second way t d) k))
