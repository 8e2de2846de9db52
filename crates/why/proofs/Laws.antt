-- Why and the solve cannot disagree: the reason's number is that of the solve's own answer, for every input. Assumes nothing.
use Rattle.std.specs.Prelude.{Err, Ok, Result}
use Prim.Native.Nat.{ℕ}
use mathlib.Core.Path.{◌≡◌, refl, sym, ◌∙◌}
use mathlib.Core.Bool.{Bool, true, false, cond}
use lib.Ieee.{Float}
use Rattle.real.specs.F64.{size_of}
use Rattle.vector.specs.declared.Vector.{Vector}
use Rattle.vector.specs.declared.State.{State}
use Rattle.table.specs.Tests.{Entry, first_failing, test_number}
use Rattle.iterator.specs.Run.{more}
use Rattle.iterator.specs.declared.Judgement.{Judgement}
use Rattle.iterator.specs.declared.Judgement.TheVariants.{Low, High, Under, Over}
use Rattle.iterator.specs.declared.Bracket.{Bracket}
use Rattle.iterator.specs.declared.Beginning.{Beginning}
use Rattle.kepler.specs.declared.Motion.{Motion}
use Rattle.kepler.specs.Kepler.{turned_of, arrival_of}
use Rattle.lambert.specs.declared.Way.{Way}
use Rattle.lambert.specs.declared.Transfer.{Transfer}
use Rattle.lambert.specs.Lambert.{transfer_of, velocity_at, result_row}
use Rattle.reach.specs.declared.Reached.{Reached}
use Rattle.reach.specs.declared.Reached.TheVariants as H
use Rattle.reach.specs.Reach.{reach_of}
use Rattle.theta.specs.Theta as Th
use Rattle.apsides.specs.Apsides as Aps
use Rattle.apsides.proofs.Laws.{answered-number}
use Rattle.problem.specs.declared.Problem.TheVariants.{Kepler, Lambert}
use Rattle.solve.specs.Ends.{motion_for, kepler_ended, lambert_ended}
use Rattle.solve.specs.Answers.{advanced_end, advance_to, transferred_end, transfer_velocity_to, advanced_number, transferred_number}
use Rattle.trials.specs.Ended.{Ended}
use Rattle.trials.specs.declared.Ended.TheVariants as E
use Rattle.solve.proofs.Halts.{arrival_number, end_number, advance-halts, transfer-halts}
use Rattle.reason.specs.declared.Neighbours.{Neighbours}
use Rattle.reason.specs.declared.Reason.TheVariants as R
use Rattle.reason.specs.Reasons.{reason_number}
use Rattle.why_direct.specs.Why.{reached_reason, time_reason, why_time, test_reason, why_apsides}
use Rattle.why.specs.Why.{neighbours_of, told_by, told_of, arrival_reason, told_advance, velocity_reason, told_transfer, advance_reason, why_advance, transfer_reason, why_transfer}
use Rattle.why.proofs.Stops.{Stops, reach-stops}

arrival : (r : Result State Entry) (n : Neighbours) → reason_number (arrival_reason r n) ≡ arrival_number r
unfolding reason_number arrival_reason
arrival (Ok s) n = refl
arrival (Err e) n = refl

range : (r : Result Unit Entry) (n : Neighbours) → reason_number (velocity_reason r n) ≡ test_number r
unfolding reason_number velocity_reason test_number
range (Ok tt) n = refl
range (Err e) n = refl

module _ (m : Motion) (from : State) (b : Bracket) where
  by-ends : (p q : Judgement) → reason_number (told_advance m from (told_by (Kepler m) b p q)) ≡ end_number 7 (arrival_number (arrival_of m from b.lo)) p q
  unfolding reason_number told_advance told_by
  by-ends (Low t) (High u) = arrival (arrival_of m from b.lo) (neighbours_of b t u)
  by-ends (Low t) (Low u) = refl
  by-ends (Low t) Under = refl
  by-ends (Low t) Over = refl
  by-ends (High t) q = refl
  by-ends Under q = refl
  by-ends Over q = refl

  arrived-number : reason_number (told_advance m from (told_of (Kepler m) b)) ≡ cond (more b) 29 (end_number 7 (arrival_number (arrival_of m from b.lo)) b.below b.above)
  unfolding reason_number told_advance told_of
  arrived-number = go (more b)
    where
      go : (k : Bool) → reason_number (told_advance m from (cond k (Err (R.NotFinished b)) (told_by (Kepler m) b b.below b.above))) ≡ cond k 29 (end_number 7 (arrival_number (arrival_of m from b.lo)) b.below b.above)
      go true = refl
      go false = by-ends b.below b.above

module _ (d : Transfer) (b : Bracket) where
  by-sides : (p q : Judgement) → reason_number (told_transfer d (told_by (Lambert d) b p q)) ≡ end_number 8 (test_number (first_failing (result_row (velocity_at d b.lo)))) p q
  unfolding reason_number told_transfer told_by
  by-sides (Low t) (High u) = range (first_failing (result_row (velocity_at d b.lo))) (neighbours_of b t u)
  by-sides (Low t) (Low u) = refl
  by-sides (Low t) Under = refl
  by-sides (Low t) Over = refl
  by-sides (High t) q = refl
  by-sides Under q = refl
  by-sides Over q = refl

  moved-number : reason_number (told_transfer d (told_of (Lambert d) b)) ≡ cond (more b) 29 (end_number 8 (test_number (first_failing (result_row (velocity_at d b.lo)))) b.below b.above)
  unfolding reason_number told_transfer told_of
  moved-number = go (more b)
    where
      go : (k : Bool) → reason_number (told_transfer d (cond k (Err (R.NotFinished b)) (told_by (Lambert d) b b.below b.above))) ≡ cond k 29 (end_number 8 (test_number (first_failing (result_row (velocity_at d b.lo)))) b.below b.above)
      go true = refl
      go false = by-sides b.below b.above

pub advance-number : (mu : Float) (s : State) (t : Float) (limit : ℕ) (g : Beginning) → reason_number (why_advance mu s t limit g) ≡ advanced_number (advance_to mu s t limit g)
unfolding reason_number advance_reason advanced_number advanced_end
advance-number mu s t limit g = go (kepler_ended mu s t limit g)
  where
    go : (e : Ended) → reason_number (advance_reason e (motion_for mu s t) (turned_of t s)) ≡ advanced_number (advanced_end e (motion_for mu s t) (turned_of t s) t (size_of t))
    go (E.Refused f) = refl
    go (E.Wrong a) = refl
    go (E.At b) = arrived-number (motion_for mu s t) (turned_of t s) b ∙ sym (advance-halts (motion_for mu s t) (turned_of t s) t (size_of t) b)

pub transfer-number : (mu : Float) (first second : Vector) (way : Way) (t : Float) (limit : ℕ) (g : Beginning)
    → reason_number (why_transfer mu first second way t limit g) ≡ transferred_number (transfer_velocity_to mu first second way t limit g)
unfolding reason_number transfer_reason transferred_number transferred_end
transfer-number mu first second way t limit g = go (lambert_ended mu first second way t limit g)
  where
    go : (e : Ended) → reason_number (transfer_reason e (transfer_of mu first second way)) ≡ transferred_number (transferred_end e (transfer_of mu first second way) t)
    go (E.Refused f) = refl
    go (E.Wrong a) = refl
    go (E.At b) = moved-number (transfer_of mu first second way) b ∙ sym (transfer-halts (transfer_of mu first second way) t b)

pub time-number : (mu : Float) (s : State) (sin cos : Float) → reason_number (why_time mu s sin cos) ≡ Th.transfer_time_number (Th.theta_of mu s sin cos)
unfolding reason_number time_reason Th.transfer_time_number Th.answered
time-number mu s sin cos = go (first_failing (Th.theta_tests mu s sin cos (Th.sweep_of mu s sin cos))) (reach_of (Th.arc_of mu (Th.sweep_of mu s sin cos))) (reach-stops (Th.arc_of mu (Th.sweep_of mu s sin cos)))
  where
    by-reach : (r : Reached) → Stops r → reason_number (reached_reason r) ≡ Th.transfer_time_number (Th.transfer_time_by s r)
    by-reach (H.Time t) h = unfold reason_number reached_reason Th.transfer_time_number Th.transfer_time_by in refl
    by-reach (H.Under e) h = unfold reason_number reached_reason Th.transfer_time_number Th.transfer_time_by in h.0
    by-reach (H.Over e) h = unfold reason_number reached_reason Th.transfer_time_number Th.transfer_time_by in h.0

    go : (p : Result Unit Entry) (r : Reached) → Stops r → reason_number (time_reason p r) ≡ Th.transfer_time_number (Th.answered p (Th.transfer_time_by s r))
    go (Err e) r h = refl
    go (Ok tt) r h = by-reach r h

pub apsides_number_lem : (mu : Float) (s : State) → reason_number (why_apsides mu s) ≡ Aps.apsides_number (Aps.apsides_of mu s)
apsides_number_lem mu s = go (first_failing (Aps.apsides_tests mu s (Aps.shape_of mu s))) ∙ sym (answered-number (first_failing (Aps.apsides_tests mu s (Aps.shape_of mu s))) (Aps.shape_of mu s))
  where
    go : (p : Result Unit Entry) → reason_number (test_reason p) ≡ test_number p
    go (Ok tt) = unfold reason_number test_reason test_number in refl
    go (Err e) = unfold reason_number test_reason test_number in refl
