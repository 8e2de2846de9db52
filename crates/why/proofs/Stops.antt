-- The range test that stops a trial is true: it fails, and its number is the one that over and under give. A neighbour without a time
-- is told to be the grid's own end exactly if it is. Assumes nothing.
use Rattle.std.specs.Prelude.{Err, Ok, Result}
use Rattle.series.specs.declared.Pair.{Pair}
use Rattle.conic.specs.declared.Point.{Point}
use Rattle.refusal.specs.declared.Refusal.{Refusal}
use Rattle.refusal.specs.Refusals.{number_of}
use Prim.Native.Nat.{ℕ, zero, suc}
use mathlib.Core.Path.{◌≡◌, refl, sym, ap, ◌∙◌, subst}
use mathlib.Core.Bool.{Bool, true, false, cond, not, ◌&&◌, true≢false}
use borrow.Author.Tests.{not-true}
use lib.IntN.{ℤ}
use lib.Signed.{lt_z}
use lib.Ieee.{Float, nan, inf, fin, lt, le, eq, neg, of_bits}
use Rattle.real.proofs.Order.{under-not, at-most-not}
use Rattle.facts.proofs.Truth.{and-1}
use Rattle.facts.proofs.Wholes.{zero_one}
use Rattle.real.specs.F64.{◌⊕◌, ◌⊖◌, ◌⊗◌, ◌≤ᶠ◌, ◌<ᶠ◌, two^, f0, finite}
use Rattle.root.specs.Root.{root_of}
use Rattle.series.specs.Series.{least_xi, most_xi, in_range, pair_at, both_answer}
use Rattle.table.specs.declared.Name.{Name}
use Rattle.table.specs.declared.Name.TheVariants.{Xi, TrialTime, Den, P}
use Rattle.table.specs.declared.Limit.{Limit}
use Rattle.table.specs.declared.Limit.TheVariants as L
use Rattle.table.specs.Tests.{Entry, meets}
use Rattle.conic.specs.declared.Orbit.{Orbit}
use Rattle.conic.specs.Conic.{grid_of, range_test, outside_of, trial_of, point_at}
use Rattle.iterator.specs.declared.Judgement.{Judgement}
use Rattle.iterator.specs.declared.Judgement.TheVariants as J
use Rattle.iterator.specs.Judged.{in_time, judged_of}
use Rattle.reach.specs.declared.Arc.{Arc}
use Rattle.reach.specs.declared.Reached.{Reached}
use Rattle.reach.specs.declared.Reached.TheVariants as H
use Rattle.reach.specs.Reach.{over_by, orbit_of, timed, x_n_of, judged_x, replaced_of, reach_of}
use Rattle.reach.proofs.Times.{reach-in}
use Rattle.kepler.specs.declared.Motion.{Motion}
use Rattle.kepler.specs.Kepler as K
use Rattle.lambert.specs.declared.Transfer.{Transfer}
use Rattle.lambert.specs.Lambert as M
use Rattle.problem.specs.Problems.{judge_of, start_of, held_of}
use Rattle.problem.specs.Stops.{range_at, stop_by, stop_of}
use Rattle.problem.specs.declared.Problem.{Problem}
use Rattle.problem.specs.declared.Problem.TheVariants.{Kepler, Lambert}
use Rattle.reason.specs.declared.Stop.TheVariants as S
use Rattle.why.proofs.Order.{out-of-time}

-- it fails, and has this number
abbrev pub Fails : ℕ → Entry → Type 0
Fails n e = (number_of e.refusal ≡ n) × (meets e ≡ false)

abbrev pub Stops : Reached → Type 0
Stops (H.Time t) = Prim.Unit
Stops (H.Under e) = Fails 8 e
Stops (H.Over e) = Fails 7 e

-- ---- ξ outside its range

between-finite : (x : Float) → (least_xi ≤ᶠ x) ≡ true → (x ≤ᶠ most_xi) ≡ true → finite x ≡ true
unfolding le lt eq neg of_bits
between-finite nan h k = absurd (true≢false (sym h))
between-finite (inf true) h k = absurd (true≢false (sym h))
between-finite (inf false) h k = absurd (true≢false (sym k))
between-finite (fin s m e) h k = refl

outside-fails : (xi : Float) (n : Refusal) → both_answer xi ≡ Err n → Fails 7 (outside_of xi)
unfolding outside_of both_answer in_range
outside-fails xi n h = go (least_xi ≤ᶠ xi) refl
  where
    values : (b : Bool) → (least_xi ≤ᶠ xi) ≡ true → (xi ≤ᶠ most_xi) ≡ b → b ≡ false
    values false e k = refl
    values true e k =
        let f = between-finite xi e k in
        let q : both_answer xi ≡ Ok (pair_at 3 xi) = unfold both_answer in_range in simp (f, e, k) in
        let z : ◌≡◌ {A = ℕ} 0 1 = cc in
        absurd (zero_one z)

    go : (b : Bool) → (least_xi ≤ᶠ xi) ≡ b → Fails 7 (cond b (range_test Refusal.TooLong Xi xi (L.AtMost most_xi)) (range_test Refusal.TooLong Xi xi (L.AtLeast least_xi)))
    go true e = (refl, values (xi ≤ᶠ most_xi) e refl)
    go false e = (refl, e)

point-fails : (o : Orbit) (x xi : Float) (e : Entry) → point_at o x xi ≡ Err e → Fails 7 e
unfolding point_at trial_of
point-fails o x xi e h = go (both_answer xi) refl h
  where
    go : (b : Result Pair Refusal) → both_answer xi ≡ b → trial_of o x xi b ≡ Err e → Fails 7 e
    go (Err n) k h = let i : outside_of xi ≡ e = cc in subst (Fails 7) i (outside-fails xi n k)
    go (Ok p) k h = let z : ◌≡◌ {A = ℕ} 0 1 = cc in absurd (zero_one z)

time-fails : (t : Float) → in_time t ≡ false → Fails 7 (range_test Refusal.TooLong TrialTime t (L.SizeAtMost (two^ 28)))
time-fails t h = (refl, out-of-time t h)

-- ---- steps 4 to 7

one : (c : Bool) (x y : Reached) → (c ≡ true → Stops x) → Stops y → Stops (cond c x y)
one true x y h k = h refl
one false x y h k = k

timed-stops : (r : Result Point Entry) → ((e : Entry) → r ≡ Err e → Fails 7 e) → Stops (timed r)
unfolding timed
timed-stops (Ok p) h = go (in_time p.t) refl
  where
    go : (b : Bool) → in_time p.t ≡ b → Stops (cond b (H.Time p.t) (over_by TrialTime p.t (L.SizeAtMost (two^ 28))))
    go true e = tt
    go false e = time-fails p.t e
timed-stops (Err e) h = h e refl

judged-stops : (a : Arc) (rootp x xi : Float) → Stops (judged_x a rootp x xi)
unfolding judged_x
judged-stops a rootp x xi =
    one (not (x <ᶠ two^ 17)) _ _ (λ e. (refl, not-true (x <ᶠ two^ 17) e))
    (one (xi <ᶠ least_xi) _ _ (λ e. (refl, under-not xi least_xi e))
    (one (not (xi ≤ᶠ most_xi)) _ _ (λ e. (refl, not-true (xi ≤ᶠ most_xi) e))
    (timed-stops (point_at (orbit_of a rootp) x xi) (point-fails (orbit_of a rootp) x xi))))

replaced-stops : (n : ℕ) (a : Arc) (rootp w : Float) → Stops (replaced_of n a rootp w)
unfolding replaced_of
replaced-stops zero a rootp w = judged-stops a rootp (a.rootr1 ⊗ x_n_of a w) (a.alpha ⊗ (x_n_of a w ⊗ x_n_of a w))
replaced-stops (suc n) a rootp w =
    let radicand = w ⊗ w ⊕ a.alpha in
    let next = w ⊕ root_of radicand in
    one (not (f0 ≤ᶠ radicand)) _ _ (λ e. (refl, not-true (f0 ≤ᶠ radicand) e))
    (one (not (f0 <ᶠ next)) _ _ (λ e. (refl, not-true (f0 <ᶠ next) e)) (replaced-stops n a rootp next))

pub reach-stops : (a : Arc) → Stops (reach_of a)
unfolding reach_of
reach-stops a =
    let w = root_of a.p ⊗ (a.cothalf ⊖ a.cot) in
    one (a.alpha ≤ᶠ f0 && w ≤ᶠ f0) _ _ (λ e. (refl, at-most-not w f0 (and-1 (a.alpha ≤ᶠ f0) _ e))) (replaced-stops 5 a (root_of a.p) w)

-- ---- the two judges

side-stops : (sin : Float) (name : Name) (x : Float) (limit : Limit) → meets (range_test Refusal.TooLong name x limit) ≡ false → Stops (M.side_of sin name x limit)
unfolding M.side_of
side-stops sin name x limit h = go (f0 ≤ᶠ sin)
  where
    go : (b : Bool) → Stops (cond b (H.Under (range_test Refusal.TooShort name x limit)) (H.Over (range_test Refusal.TooLong name x limit)))
    go true = (refl, h)
    go false = (refl, h)

pub transfer-stops : (d : Transfer) (cot : Float) → Stops (M.reach_at d cot)
unfolding M.reach_at
transfer-stops d cot =
    one (not (f0 <ᶠ M.den_of d cot)) _ _ (λ e. side-stops d.sin Den (M.den_of d cot) (L.Over f0) (not-true (f0 <ᶠ M.den_of d cot) e))
    (one (not (M.p_of d cot ≤ᶠ two^ 4)) _ _ (λ e. side-stops d.sin P (M.p_of d cot) (L.AtMost (two^ 4)) (not-true (M.p_of d cot ≤ᶠ two^ 4) e))
    (reach-stops (M.arc_of d (M.p_of d cot) cot)))

kepler-fails : (m : Motion) (n : ℤ) (e : Entry) → K.kepler_stop m n ≡ Err e → meets e ≡ false
unfolding K.stopped_by
kepler-fails m n e h = go (K.trial_at m n) refl h
  where
    by-time : (t : Float) (b : Bool) → in_time t ≡ b → ◌≡◌ {A = Result Unit Entry} (cond b (Ok tt) (Err (range_test Refusal.TooLong TrialTime t (L.SizeAtMost (two^ 28))))) (Err e) → meets e ≡ false
    by-time t true k h = let z : ◌≡◌ {A = ℕ} 0 1 = cc in absurd (zero_one z)
    by-time t false k h = let i : range_test Refusal.TooLong TrialTime t (L.SizeAtMost (two^ 28)) ≡ e = cc in subst (λ (x : Entry). meets x ≡ false) i (time-fails t k).1

    go : (r : Result Point Entry) → K.trial_at m n ≡ r → K.stopped_by r ≡ Err e → meets e ≡ false
    go (Ok p) k h = by-time p.t (in_time p.t) refl h
    go (Err f) k h = let i : f ≡ e = cc in subst (λ (x : Entry). meets x ≡ false) i (point-fails m.orbit (grid_of n) (m.alpha ⊗ (grid_of n ⊗ grid_of n)) f k).1

lambert-fails : (r : Reached) (e : Entry) → Stops r → M.stopped_by r ≡ Err e → meets e ≡ false
unfolding M.stopped_by
lambert-fails (H.Time t) e s h = let z : ◌≡◌ {A = ℕ} 0 1 = cc in absurd (zero_one z)
lambert-fails (H.Under f) e s h = let i : f ≡ e = cc in subst (λ (x : Entry). meets x ≡ false) i s.1
lambert-fails (H.Over f) e s h = let i : f ≡ e = cc in subst (λ (x : Entry). meets x ≡ false) i s.1

range-fails : (problem : Problem) (n : ℤ) (e : Entry) → range_at problem n ≡ Err e → meets e ≡ false
range-fails (Kepler m) n e h = kepler-fails m n e h
range-fails (Lambert d) n e h = lambert-fails (M.reach_at d (grid_of n)) e (transfer-stops d (grid_of n)) h

-- ---- the stop that is told

-- a range test that is told fails
pub stop-fails : (problem : Problem) (n : ℤ) (e : Entry) → stop_of problem n ≡ S.Test e → meets e ≡ false
unfolding stop_of stop_by
stop-fails problem n e h = go (lt_z (start_of problem).lo n) (lt_z n (start_of problem).hi) h
  where
    by-test : (r : Result Unit Entry) → range_at problem n ≡ r → stop_by r ≡ S.Test e → meets e ≡ false
    by-test (Err f) k h = let i : f ≡ e = cc in range-fails problem n e (k ∙ ap Err i)
    by-test (Ok tt) k h = let z : ◌≡◌ {A = ℕ} 0 1 = cc in absurd (zero_one z)

    go : (p q : Bool) → cond p (cond q (stop_by (range_at problem n)) S.EndOfGrid) S.EndOfGrid ≡ S.Test e → meets e ≡ false
    go true true h = by-test (range_at problem n) refl h
    go true false h = let z : ◌≡◌ {A = ℕ} 0 1 = cc in absurd (zero_one z)
    go false q h = let z : ◌≡◌ {A = ℕ} 0 1 = cc in absurd (zero_one z)

-- ---- a neighbour without a time inside the grid is told by a test, so that an end is told of the grid's own ends alone

abbrev pub Timeless : Judgement → Type 0
Timeless (J.Low t) = ⊥
Timeless (J.High t) = ⊥
Timeless J.Under = Prim.Unit
Timeless J.Over = Prim.Unit

in-time-timed : (asked t : Float) → in_time t ≡ true → Timeless (judged_of asked t) → ⊥
unfolding judged_of
in-time-timed asked t e h = go (in_time t) (t ≤ᶠ asked) e h
  where
    go : (b c : Bool) → b ≡ true → Timeless (cond b (cond c (J.Low t) (J.High t)) J.Over) → ⊥
    go true true e h = h
    go true false e h = h
    go false c e h = true≢false (sym e)

kepler-passed : (asked : Float) (r : Result Point Entry) → K.stopped_by r ≡ Ok tt → Timeless (K.judged_trial asked r) → ⊥
unfolding K.stopped_by K.judged_trial
kepler-passed asked (Ok p) e h = go (in_time p.t) refl e
  where
    go : (b : Bool) → in_time p.t ≡ b → ◌≡◌ {A = Result Unit Entry} (cond b (Ok tt) (Err (range_test Refusal.TooLong TrialTime p.t (L.SizeAtMost (two^ 28))))) (Ok tt) → ⊥
    go true k e = in-time-timed asked p.t k h
    go false k e = let z : ◌≡◌ {A = ℕ} 0 1 = cc in zero_one z
kepler-passed asked (Err f) e h = let z : ◌≡◌ {A = ℕ} 0 1 = cc in zero_one z

-- a time that steps 1 to 7 hand out is within its range
transfer_in_lem : (d : Transfer) (cot t : Float) → M.reach_at d cot ≡ H.Time t → in_time t ≡ true
unfolding M.reach_at M.side_of
transfer_in_lem d cot t e = go (not (f0 <ᶠ M.den_of d cot)) (not (M.p_of d cot ≤ᶠ two^ 4)) (f0 ≤ᶠ d.sin) e
  where
    side : (s : Bool) (name : Name) (x : Float) (limit : Limit) → cond s (H.Under (range_test Refusal.TooShort name x limit)) (H.Over (range_test Refusal.TooLong name x limit)) ≡ H.Time t → ⊥
    side true name x limit e = let z : ◌≡◌ {A = ℕ} 0 1 = cc in zero_one z
    side false name x limit e = let z : ◌≡◌ {A = ℕ} 0 1 = cc in zero_one z

    go : (b c s : Bool) → cond b (cond s (H.Under (range_test Refusal.TooShort Den (M.den_of d cot) (L.Over f0))) (H.Over (range_test Refusal.TooLong Den (M.den_of d cot) (L.Over f0))))
        (cond c (cond s (H.Under (range_test Refusal.TooShort P (M.p_of d cot) (L.AtMost (two^ 4)))) (H.Over (range_test Refusal.TooLong P (M.p_of d cot) (L.AtMost (two^ 4))))) (reach_of (M.arc_of d (M.p_of d cot) cot))) ≡ H.Time t → in_time t ≡ true
    go true c s e = absurd (side s Den (M.den_of d cot) (L.Over f0) e)
    go false true s e = absurd (side s P (M.p_of d cot) (L.AtMost (two^ 4)) e)
    go false false s e = (reach-in (M.arc_of d (M.p_of d cot) cot)).held t e

lambert-passed : (asked : Float) (r : Reached) → ((t : Float) → r ≡ H.Time t → in_time t ≡ true) → M.stopped_by r ≡ Ok tt → Timeless (M.judged_reach asked r) → ⊥
unfolding M.stopped_by M.judged_reach
lambert-passed asked (H.Time t) k e h = in-time-timed asked t (k t refl) h
lambert-passed asked (H.Under f) k e h = let z : ◌≡◌ {A = ℕ} 0 1 = cc in zero_one z
lambert-passed asked (H.Over f) k e h = let z : ◌≡◌ {A = ℕ} 0 1 = cc in zero_one z

range-passed : (problem : Problem) (asked : Float) (n : ℤ) → range_at problem n ≡ Ok tt → Timeless (judge_of problem asked n) → ⊥
range-passed (Kepler m) asked n e h = kepler-passed asked (K.trial_at m n) e h
range-passed (Lambert d) asked n e h = lambert-passed asked (M.reach_at d (grid_of n)) (transfer_in_lem d (grid_of n)) e h

pub end-only : (problem : Problem) (asked : Float) (n : ℤ) → Timeless (held_of problem asked n) → stop_of problem n ≡ S.EndOfGrid
    → (lt_z (start_of problem).lo n && lt_z n (start_of problem).hi) ≡ false
unfolding held_of stop_of stop_by
end-only problem asked n h e = go (lt_z (start_of problem).lo n) (lt_z n (start_of problem).hi) h e
  where
    by-test : (r : Result Unit Entry) → range_at problem n ≡ r → Timeless (judge_of problem asked n) → stop_by r ≡ S.EndOfGrid → ⊥
    by-test (Ok tt) k h e = range-passed problem asked n k h
    by-test (Err f) k h e = let z : ◌≡◌ {A = ℕ} 0 1 = cc in zero_one z

    go : (p q : Bool) → Timeless (cond p (cond q (judge_of problem asked n) (start_of problem).above) (start_of problem).below)
        → cond p (cond q (stop_by (range_at problem n)) S.EndOfGrid) S.EndOfGrid ≡ S.EndOfGrid → (p && q) ≡ false
    go true true h e = absurd (by-test (range_at problem n) refl h e)
    go true false h e = refl
    go false q h e = refl
