-- The number of what the bracket that a solve's trials end on comes to: 29 where a trial is left; else 0 or 9 for two times, by row 9; 7 where
-- the upper neighbour has none; and what is given for a lower one without. Assumes nothing.
use Rattle.refusal.specs.Refusals.{number_of}
use Rattle.std.specs.Prelude.{Err, Ok, Result}
use Prim.Native.Nat.{ℕ}
use mathlib.Core.Path.{◌≡◌, refl}
use mathlib.Core.Bool.{Bool, true, false, cond}
use lib.Ieee.{Float}
use Rattle.vector.specs.declared.Vector.{Vector}
use Rattle.vector.specs.declared.State.{State}
use Rattle.table.specs.Tests.{Entry, first_failing, test_number}
use Rattle.iterator.specs.Run.{more}
use Rattle.iterator.specs.declared.Judgement.{Judgement}
use Rattle.iterator.specs.declared.Judgement.TheVariants.{Low, High, Under, Over}
use Rattle.iterator.specs.declared.Bracket.{Bracket}
use Rattle.kepler.specs.declared.Motion.{Motion}
use Rattle.kepler.specs.Kepler.{turns_of, arrival_of}
use Rattle.lambert.specs.declared.Transfer.{Transfer}
use Rattle.lambert.specs.Lambert.{velocity_at, result_row}
use Rattle.solve.specs.Answers.{solution_of, outcome_by, outcome_at, concluded_of, advanced_at, advanced_as, advanced_end, transferred_at, transferred_as, transferred_end, advanced_number, transferred_number}
use Rattle.solve.specs.declared.Solution.{Solution}
use Rattle.solve.specs.declared.Outcome.TheVariants as O
use Rattle.trials.specs.declared.Ended.TheVariants as E

abbrev pub arrival_number : Result State Entry → ℕ
arrival_number (Ok s) = 0
arrival_number (Err e) = number_of e.refusal

abbrev pub end_number : ℕ → ℕ → Judgement → Judgement → ℕ
end_number short nine (Low t) (High u) = nine
end_number short nine (Low t) (Low u) = 7
end_number short nine (Low t) Under = 7
end_number short nine (Low t) Over = 7
end_number short nine (High t) above = short
end_number short nine Under above = short
end_number short nine Over above = short

found : (t : Float) (w : ℕ) (x : Solution) (r : Result State Entry) → advanced_number (advanced_at t w x r) ≡ arrival_number r
unfolding advanced_number advanced_at
found t w x (Ok s) = refl
found t w x (Err e) = refl

moved : (r : Result Unit Entry) (v : Vector) (x : Solution) → transferred_number (transferred_at r v x) ≡ test_number r
unfolding transferred_number transferred_at test_number
moved (Ok tt) v x = refl
moved (Err e) v x = refl

module _ (m : Motion) (from : State) (t size asked : Float) (w : ℕ) (b : Bracket) where
  abbrev nine : ℕ
  nine = arrival_number (arrival_of m from b.lo)

  advance-ends : (p q : Judgement) → advanced_number (advanced_as m from t w (outcome_by size asked b p q)) ≡ end_number 7 nine p q
  unfolding advanced_number advanced_as outcome_by
  advance-ends (Low t') (High u) = found t w (solution_of size asked b t') (arrival_of m from b.lo)
  advance-ends (Low t') (Low u) = refl
  advance-ends (Low t') Under = refl
  advance-ends (Low t') Over = refl
  advance-ends (High t') q = refl
  advance-ends Under q = refl
  advance-ends Over q = refl

  advance-concluded : advanced_number (advanced_as m from t w (concluded_of size asked b)) ≡ cond (more b) 29 (end_number 7 nine b.below b.above)
  unfolding advanced_number advanced_as concluded_of
  advance-concluded = go (more b)
    where
      go : (k : Bool) → advanced_number (advanced_as m from t w (cond k (O.NotFinished b) (outcome_at size asked b))) ≡ cond k 29 (end_number 7 (arrival_number (arrival_of m from b.lo)) b.below b.above)
      go true = refl
      go false = advance-ends b.below b.above

pub advance-halts : (m : Motion) (from : State) (t size : Float) (b : Bracket)
    → advanced_number (advanced_end (E.At b) m from t size) ≡ cond (more b) 29 (end_number 7 (arrival_number (arrival_of m from b.lo)) b.below b.above)
unfolding advanced_end
advance-halts m from t size b = advance-concluded m from t size (turns_of m size).rest (turns_of m size).turns b

module _ (d : Transfer) (asked : Float) (b : Bracket) where
  transfer-ends : (p q : Judgement) → transferred_number (transferred_as d (outcome_by asked asked b p q)) ≡ end_number 8 (test_number (first_failing (result_row (velocity_at d b.lo)))) p q
  unfolding transferred_number transferred_as outcome_by
  transfer-ends (Low t') (High u) = moved (first_failing (result_row (velocity_at d b.lo))) (velocity_at d b.lo) (solution_of asked asked b t')
  transfer-ends (Low t') (Low u) = refl
  transfer-ends (Low t') Under = refl
  transfer-ends (Low t') Over = refl
  transfer-ends (High t') q = refl
  transfer-ends Under q = refl
  transfer-ends Over q = refl

  pub transfer-halts : transferred_number (transferred_end (E.At b) d asked) ≡ cond (more b) 29 (end_number 8 (test_number (first_failing (result_row (velocity_at d b.lo)))) b.below b.above)
  unfolding transferred_end transferred_number transferred_as concluded_of
  transfer-halts = go (more b)
    where
      go : (k : Bool) → transferred_number (transferred_as d (cond k (O.NotFinished b) (outcome_at asked asked b))) ≡ cond k 29 (end_number 8 (test_number (first_failing (result_row (velocity_at d b.lo)))) b.below b.above)
      go true = refl
      go false = transfer-ends b.below b.above
