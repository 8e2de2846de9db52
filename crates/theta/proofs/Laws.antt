-- The refusal number is the first row's that applies, 1 where an input is infinite or not a number, and 6 where r×v has length 0 and
-- the rows ahead pass; a time that is handed out is finite, and its state is the one given. Assumes nothing.
use Rattle.std.specs.Prelude.{Result, Ok, Err}
use Rattle.refusal.specs.declared.Refusal.TheVariants as Refusal
use Prim.Native.Nat.{ℕ, suc}
use native.Mathlib.Omega.{arith}
use mathlib.Core.Path.{◌≡◌, refl, sym, ap, ◌∙◌}
use mathlib.Core.Bool.{Bool, true, false, cond, ◌&&◌, false≢true}
use mathlib.Core.List.{List, [], ◌∷◌, ◌++◌}
use lib.Ieee as Ieee
use lib.Ieee.{Float, of_bits}
use Rattle.real.specs.F64.{◌≤ᶠ◌, ◌<ᶠ◌, two^, f0, finite, size_of}
use Rattle.real.proofs.Finite.{size-at-most, divided-by-zero}
use Rattle.vector.specs.declared.State.{State}
use Rattle.vector.specs.Vectors.{position_of, velocity_of, dot_of, cross_of, length_of}
use Rattle.table.specs.declared.Name.TheVariants.{Position, Velocity, Sin, Cos}
use Rattle.table.specs.declared.Part.TheVariants.{Length}
use Rattle.table.specs.declared.Limit.TheVariants.{AtLeast, Under}
use Rattle.table.specs.Tests as Tests
use Rattle.table.specs.Tests.{Entry, entry, first_failing, all_meet, first_row, table_order}
use Rattle.rows.specs.Rows.{finite_number, finite_inputs, mu_row, position_components, position_row, velocity_components, state_rows}
use Rattle.table.proofs.Laws.{all_met_lem, meet-both, met-left, met-right, met-then, first_row_lem, row-then}
use Rattle.rows.proofs.Components.{Finite, position-finite, velocity-finite}
use Rattle.rows.proofs.Inputs.{all_finite, inputs-finite, two-more}
use Rattle.iterator.proofs.Single.{in-time-finite}
use Rattle.reach.specs.declared.Reached.{Reached}
use Rattle.reach.specs.declared.Reached.TheVariants as R
use Rattle.reach.specs.Reach.{reach_of}
use Rattle.reach.proofs.Times.{reach-in}
use Rattle.theta.specs.declared.Sweep.{Sweep}
use Rattle.theta.specs.declared.Timed.{Timed}
use Rattle.theta.specs.declared.TransferTime.TheVariants.{Time}
use Rattle.conic.specs.Conic.{straight_row}
use Rattle.theta.specs.Theta.{TransferTime, sweep_of, input_rows, angle_row, derived_row, theta_tests, arc_of, transfer_time_by, answered, theta_of, transfer_time_number}

-- ---- the answer's number

-- tests that give a number other than 0 give the answer's
refused : (t : Result Unit Entry) (x : TransferTime) (n : ℕ) → Tests.test_number t ≡ suc n → transfer_time_number (answered t x) ≡ suc n
unfolding answered transfer_time_number Tests.test_number
refused (Ok tt) x n h = absurd (omega arith)
refused (Err e) x n h = h

not-at-most : (x : Float) → finite x ≡ false → (size_of x ≤ᶠ two^ 5) ≡ false
unfolding of_bits
not-at-most x h = go (size_of x ≤ᶠ two^ 5) (size-at-most x (two^ 5) refl)
  where
    go : (b : Bool) → (b ≡ true → finite x ≡ true) → b ≡ false
    go true f = absurd (false≢true (sym h ∙ f refl))
    go false f = refl

second-fails : (a b : Bool) → (a && (false && b)) ≡ false
second-fails true b = refl
second-fails false b = refl

cot-fails : (d : Sweep) → finite d.cot ≡ false → all_meet (derived_row d) ≡ false
cot-fails d h = rw (not-at-most d.cot h) (second-fails (size_of d.c2 <ᶠ two^ 6) (d.pn ≤ᶠ two^ 4 && (size_of d.cothalf ≤ᶠ two^ 5 && true)))

module _ (mu : Float) (s : State) (sin cos : Float) where
  abbrev S : Sweep
  S = sweep_of mu s sin cos

  abbrev tests : List Entry
  tests = theta_tests mu s sin cos S

  -- the number of the first row that applies, in the order of the table
  pub theta-table : transfer_time_number (theta_of mu s sin cos) ≡ cond (Tests.passes (first_failing tests)) (transfer_time_number (transfer_time_by s (reach_of (arc_of mu S)))) (first_row table_order tests)
  unfolding answered transfer_time_number Tests.passes Tests.test_number
  theta-table =
      by_tests (first_failing tests)
      ∙ ap (λ (n : ℕ). cond (Tests.passes (first_failing tests)) (transfer_time_number (transfer_time_by s (reach_of (arc_of mu S)))) n) (first_row_lem table_order tests refl)
    where
      by_tests : (p : Result Unit Entry) → transfer_time_number (answered p (transfer_time_by s (reach_of (arc_of mu S)))) ≡ cond (Tests.passes p) (transfer_time_number (transfer_time_by s (reach_of (arc_of mu S)))) (Tests.test_number p)
      by_tests (Ok tt) = refl
      by_tests (Err e) = refl

  -- an input that is infinite or not a number is refused with 1, whatever else holds
  pub theta-not-finite : (finite mu && all_finite (position_of s) && all_finite (velocity_of s) && finite sin && finite cos) ≡ false → transfer_time_number (theta_of mu s sin cos) ≡ 1
  theta-not-finite h =
      let inputs : List Entry = finite_inputs mu Position (position_of s) Velocity (velocity_of s) in
      let angle : List Entry = finite_number Sin sin ++ finite_number Cos cos in
      let behind : List Entry = state_rows mu s S.r1 ++ angle_row S ++ derived_row S ++ straight_row S.pn in
      let known : all_meet (inputs ++ angle) ≡ false =
      meet-both inputs angle ∙ two-more (inputs-finite mu Position Velocity (position_of s) (velocity_of s)) (finite sin) (finite cos) ∙ h
      in
      refused (first_failing tests) _ 0 (row-then 1 (inputs ++ angle) behind refl ∙ ap (λ (b : Bool). cond b (Tests.test_number (first_failing behind)) 1) known)

  -- r×v has length 0: 6, where the rows ahead pass
  pub theta-zero : all_meet (input_rows mu s sin cos S.r1 ++ angle_row S) ≡ true → Ieee.eq (length_of (cross_of (position_of s) (velocity_of s))) f0 ≡ true → transfer_time_number (theta_of mu s sin cos) ≡ 6
  theta-zero g h =
      let e : all_meet (derived_row S) ≡ false = cot-fails S (divided-by-zero (dot_of (position_of s) (velocity_of s)) (length_of (cross_of (position_of s) (velocity_of s))) h) in
      refused (first_failing tests) _ 5
      (ap Tests.test_number (met-then (input_rows mu s sin cos S.r1 ++ angle_row S) (derived_row S ++ straight_row S.pn) g)
      ∙ row-then 6 (derived_row S) (straight_row S.pn) refl
      ∙ ap (λ (b : Bool). cond b (Tests.test_number (first_failing (straight_row S.pn))) 6) e)

-- ---- what is handed out with a time

pub record Handed (s : State) (z : Timed) : Type 0 where
  pub time : finite z.time ≡ true
  pub state : z.state ≡ s
  pub r : Finite (position_of s)
  pub v : Finite (velocity_of s)

answered-time : (t : Result Unit Entry) (x : TransferTime) (z : Timed) → answered t x ≡ Time z → (t ≡ Ok tt) × (x ≡ Time z)
unfolding answered
answered-time (Ok tt) x z e = (refl, e)
answered-time (Err f) x z e = (cc, cc)

told-time : (s : State) (r : Reached) (z : Timed) → transfer_time_by s r ≡ Time z → (r ≡ R.Time z.time) × (z.state ≡ s)
unfolding transfer_time_by
told-time s (R.Time t) z e =
    let k : record { time = t; state = s } ≡ z = cc in
    (ap (λ (x : Timed). R.Time x.time) k, sym (ap (λ (x : Timed). x.state) k))
told-time s (R.Under q) z e = (cc, cc)
told-time s (R.Over q) z e = (cc, cc)

-- no answer holds an infinity or a NaN: the time is finite, and so is the state, the one given
pub theta-handed : (mu : Float) (s : State) (sin cos : Float) (z : Timed) → theta_of mu s sin cos ≡ Time z → Handed s z
theta-handed mu s sin cos z e =
    let d = sweep_of mu s sin cos in
    let a = answered-time (first_failing (theta_tests mu s sin cos d)) _ z e in
    let t = told-time s (reach_of (arc_of mu d)) z a.1 in
    let I : List Entry = input_rows mu s sin cos d.r1 in
    let N : List Entry = finite_inputs mu Position (position_of s) Velocity (velocity_of s) ++ finite_number Sin sin ++ finite_number Cos cos in
    let P : List Entry = position_row Position (position_of s) d.r1 in
    let W : List Entry = velocity_components Refusal.VelocityOutOfRange Velocity (velocity_of s) in
    let rows = met-right N (mu_row mu ++ P ++ W) (met-left I (angle_row d) (met-left (I ++ angle_row d) (derived_row d ++ straight_row d.pn) (all_met_lem (theta_tests mu s sin cos d) a.0))) in
    let p = met-right (mu_row mu) P (met-left (mu_row mu ++ P) W rows) in
    record {
      time = in-time-finite z.time ((reach-in (arc_of mu d)).held z.time t.0);
      state = t.1;
      r = position-finite Refusal.PositionOutOfRange Position (position_of s) (met-left (position_components Refusal.PositionOutOfRange Position (position_of s)) (entry Refusal.PositionOutOfRange Position Length d.r1 (AtLeast (two^ 18)) ∷ entry Refusal.PositionOutOfRange Position Length d.r1 (Under (two^ 29)) ∷ []) p);
      v = velocity-finite Refusal.VelocityOutOfRange Velocity (velocity_of s) (met-right (mu_row mu ++ P) W rows);
    }
