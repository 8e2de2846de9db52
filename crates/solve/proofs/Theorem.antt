-- Demand 3, one theorem a solve: an orbit, or a velocity, is handed out exactly when the computed times of the neighbours that the
-- trials end on stand on either side of the time asked for and the result is in range; the count is that of the rule's own trials,
-- at most 2b. Assumes nothing.
use Rattle.std.specs.Prelude.{Err, Ok, Result}
use Prim.Native.Nat.{ℕ, ◌≤◌}
use mathlib.Core.Path.{◌≡◌, refl, sym, ap, ◌∙◌}
use mathlib.Core.Bool.{Bool, true, false, cond, true≢false}
use lib.ListN.{length}
use lib.IntN.{ℤ, pos, ◌+ℤ◌}
use lib.Signed.{lt_z}
use lib.Ieee.{Float}
use Rattle.facts.proofs.Wholes.{zero_one}
use Rattle.real.specs.F64.{◌≤ᶠ◌, ◌<ᶠ◌, size_of}
use Rattle.vector.specs.declared.Vector.{Vector}
use Rattle.vector.specs.declared.State.{State}
use Rattle.table.specs.Tests.{Entry, first_failing}
use Rattle.conic.specs.declared.Point.{Point}
use Rattle.reach.specs.declared.Reached.{Reached}
use Rattle.reach.specs.declared.Reached.TheVariants as R
use Rattle.iterator.specs.declared.Judgement.{Judgement}
use Rattle.iterator.specs.declared.Judgement.TheVariants.{Low, High, Under, Over}
use Rattle.iterator.specs.Judged.{in_time, judged_of}
use Rattle.iterator.specs.Run.{trials}
use Rattle.iterator.specs.Single.{is_below, is_above}
use Rattle.iterator.specs.declared.Bracket.{Bracket}
use Rattle.kepler.specs.Kepler.{turned_of, kepler_tests, trial_at, judged_trial, state_at, row_at}
use Rattle.lambert.specs.declared.Way.{Way}
use Rattle.lambert.specs.Lambert.{transfer_of, lambert_tests, judged_reach, velocity_at, result_row}
use Rattle.problem.specs.Problems.{judge_of, start_of, held_of, last_of, most_of}
use Rattle.solve.specs.Times.{time, none, carried_by, timed_trial, timed_reach, time_inside, computed_at}
use Rattle.solve.specs.Ends.{motion_for, turns_for}
use Rattle.solve.specs.Answers.{solution_of, advance_of, transfer_velocity_of}
use Rattle.problem.specs.declared.Problem.{Problem}
use Rattle.problem.specs.declared.Problem.TheVariants.{Kepler, Lambert}
use Rattle.solve.specs.declared.Solution.{Solution}
use Rattle.solve.specs.declared.Advanced.TheVariants as Ad
use Rattle.solve.specs.declared.Transferred.TheVariants as Tr
use Rattle.solve.proofs.Asked.{Asked, rest-asked, lambert-asked}
use Rattle.solve.proofs.Last.{last-sound, held_below, held-above, last-ends}
use Rattle.solve.proofs.Demand.{Met, met-count, advance-result, result-advance, transfer-result, result-transfer}

-- ---- a judgement is the computed time, judged against the time asked for

judged-carries : (asked t : Float) → carried_by (judged_of asked t) ≡ cond (in_time t) (time t) none
unfolding judged_of
judged-carries asked t = go (in_time t) (t ≤ᶠ asked)
  where
    go : (a b : Bool) → carried_by (cond a (cond b (Low t) (High t)) Over) ≡ cond a (time t) none
    go true true = refl
    go true false = refl
    go false b = refl

judge-carries : (problem : Problem) (asked : Float) (n : ℤ) → carried_by (judge_of problem asked n) ≡ time_inside problem n
judge-carries (Kepler m) asked n = by-trial _
  where
    by-trial : (r : Result Point Entry) → carried_by (judged_trial asked r) ≡ timed_trial r
    by-trial (Ok p) = unfold judged_trial timed_trial in judged-carries asked p.t
    by-trial (Err e) = unfold judged_trial timed_trial in refl
judge-carries (Lambert d) asked n = by-reach _
  where
    by-reach : (r : Reached) → carried_by (judged_reach asked r) ≡ timed_reach r
    by-reach (R.Time t) = unfold judged_reach timed_reach in judged-carries asked t
    by-reach (R.Under e) = unfold judged_reach timed_reach in refl
    by-reach (R.Over e) = unfold judged_reach timed_reach in refl

held-carries : (problem : Problem) (asked : Float) (n : ℤ) → carried_by (held_of problem asked n) ≡ computed_at problem n
unfolding held_of computed_at
held-carries problem asked n = go (lt_z (start_of problem).lo n) (lt_z n (start_of problem).hi)
  where
    go : (a b : Bool) → carried_by (cond a (cond b (judge_of problem asked n) (start_of problem).above) (start_of problem).below)
        ≡ cond a (cond b (time_inside problem n) (carried_by (start_of problem).above)) (carried_by (start_of problem).below)
    go true true = judge-carries problem asked n
    go true false = refl
    go false b = refl

low_by : (j : Judgement) (t : Float) → is_below j ≡ true → carried_by j ≡ time t → j ≡ Low t
low_by (Low v) t h e = let k : v ≡ t = cc in ap Low k
low_by (High v) t h e = absurd (true≢false (sym h))
low_by Under t h e = let n : ◌≡◌ {A = ℕ} 0 1 = cc in absurd (zero_one n)
low_by Over t h e = absurd (true≢false (sym h))

high-by : (j : Judgement) (t : Float) → is_above j ≡ true → carried_by j ≡ time t → j ≡ High t
high-by (Low v) t h e = absurd (true≢false (sym h))
high-by (High v) t h e = let k : v ≡ t = cc in ap High k
high-by Under t h e = absurd (true≢false (sym h))
high-by Over t h e = let n : ◌≡◌ {A = ℕ} 0 1 = cc in absurd (zero_one n)

-- ---- the neighbours' computed times stand on either side of the time asked for

pub record Sides (problem : Problem) (size asked : Float) (x : Solution) : Type 0 where
  pub t : Float
  pub u : Float
  pub lower : computed_at problem x.n ≡ time t
  pub upper : computed_at problem (x.n +ℤ pos 1) ≡ time u
  pub at-or-below : (t ≤ᶠ asked) ≡ true
  pub above : (asked <ᶠ u) ≡ true
  -- they are those that the trials end on, and x says so: the grid point, the time, err, the grade, and the count, which is that of the
  -- rule's own trials, at most 2b
  pub solution : x ≡ solution_of size asked (last_of problem asked) t
  pub count : x.count ≡ length (trials (judge_of problem asked) asked (start_of problem))
  pub bound : x.count ≤ most_of problem

module _ (problem : Problem) (size asked : Float) (a : Asked asked) (x : Solution) where
  abbrev last : Bracket
  last = last_of problem asked

  sides : Met problem size asked x → Sides problem size asked x
  sides m =
      let n : x.n ≡ last.lo = ap (λ (y : Solution). y.n) m.solution in
      let c = met-count problem size asked x m in
      record {
        t = m.t;
        u = m.u;
        lower = ap (computed_at problem) n ∙ sym (held-carries problem asked last.lo) ∙ ap carried_by m.neighbours.lower;
        upper = ap (λ (k : ℤ). computed_at problem (k +ℤ pos 1)) n ∙ sym (held-carries problem asked (last.lo +ℤ pos 1)) ∙ ap carried_by m.neighbours.upper;
        at-or-below = m.neighbours.at-or-below;
        above = m.neighbours.above;
        solution = m.solution;
        count = c.0;
        bound = c.1;
      }

  sides-back : Sides problem size asked x → Met problem size asked x
  sides-back r =
      let n : last.lo ≡ x.n = sym (ap (λ (y : Solution). y.n) r.solution) in
      let h = last-sound problem asked a in
      let e = (last-ends problem asked).neighbours in
      let low : last.below ≡ Low r.t =
      low_by last.below r.t h.lower (ap carried_by (held_below problem asked a) ∙ held-carries problem asked last.lo ∙ ap (computed_at problem) n ∙ r.lower) in
      let high : last.above ≡ High r.u =
      high-by last.above r.u h.upper
      (ap carried_by (held-above problem asked a) ∙ held-carries problem asked last.hi ∙ ap (computed_at problem) e ∙ ap (λ (k : ℤ). computed_at problem (k +ℤ pos 1)) n ∙ r.upper) in
      record {
        t = r.t;
        u = r.u;
        neighbours = record {
          lower = sym (held_below problem asked a) ∙ low;
          upper = ap (held_of problem asked) (sym e) ∙ sym (held-above problem asked a) ∙ high;
          at-or-below = r.at-or-below;
          above = r.above;
        };
        solution = r.solution;
      }

-- ---- the advance, for the rest of the time asked for

pub record Flown (mu : Float) (s : State) (t : Float) (z : State) (x : Solution) (turns : ℕ) : Type 0 where
  pub sides : Sides (Kepler (motion_for mu s t)) (size_of t) (turns_for mu s t).rest x
  pub point : Point
  pub numbers : trial_at (motion_for mu s t) x.n ≡ Ok point
  pub time : point.t ≡ x.t
  pub in-range : row_at (motion_for mu s t).orbit (turned_of t s) point ≡ Ok tt
  pub turned : z ≡ turned_of t (state_at (motion_for mu s t).orbit (turned_of t s) point)
  pub taken-off : turns ≡ (turns_for mu s t).turns

pub advance-theorem : (mu : Float) (s : State) (t : Float) → first_failing (kepler_tests mu s t (motion_for mu s t)) ≡ Ok tt → (z : State) (x : Solution) (turns : ℕ)
    → (advance_of mu s t ≡ Ad.Found z x turns → Flown mu s t z x turns) × (Flown mu s t z x turns → advance_of mu s t ≡ Ad.Found z x turns)
advance-theorem mu s t passed z x turns =
    let p = Kepler (motion_for mu s t) in
    let rest = (turns_for mu s t).rest in
    let a = rest-asked mu s t passed in (
      λ e.
          let r = advance-result mu s t passed z x turns e in
          record { sides = sides p (size_of t) rest a x r.met; point = r.point; numbers = r.numbers; time = r.time; in-range = r.in-range; turned = r.turned; taken-off = r.taken-off },
      λ f.
          result-advance mu s t passed z x turns
          (record { met = sides-back p (size_of t) rest a x f.sides; point = f.point; numbers = f.numbers; time = f.time; in-range = f.in-range; turned = f.turned; taken-off = f.taken-off }),
    )

-- ---- the transfer

pub record Sent (mu : Float) (first second : Vector) (way : Way) (t : Float) (v : Vector) (x : Solution) : Type 0 where
  pub sides : Sides (Lambert (transfer_of mu first second way)) t t x
  pub velocity : v ≡ velocity_at (transfer_of mu first second way) x.n
  pub in-range : first_failing (result_row v) ≡ Ok tt

pub transfer-theorem : (mu : Float) (first second : Vector) (way : Way) (t : Float) → first_failing (lambert_tests mu first second way t (transfer_of mu first second way)) ≡ Ok tt
    → (v : Vector) (x : Solution)
    → (transfer_velocity_of mu first second way t ≡ Tr.Found v x → Sent mu first second way t v x) × (Sent mu first second way t v x → transfer_velocity_of mu first second way t ≡ Tr.Found v x)
transfer-theorem mu first second way t passed v x =
    let d = transfer_of mu first second way in
    let a = lambert-asked mu first second way t d passed in (
      λ e.
          let r = transfer-result mu first second way t passed v x e in
          record { sides = sides (Lambert d) t t a x r.met; velocity = r.velocity; in-range = r.in-range },
      λ f.
          result-transfer mu first second way t passed v x
          (record { met = sides-back (Lambert d) t t a x f.sides; velocity = f.velocity; in-range = f.in-range }),
    )
