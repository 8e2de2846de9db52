-- Time-Theta: a state and an angle give a time, in the operations of f64 and in their order. Assumes nothing: these are definitions.
use Rattle.std.specs.Prelude.{ℕ, List, [], ◌∷◌, ◌++◌, Float, Result, Ok, Err}
use Rattle.refusal.specs.declared.Refusal.{Refusal}
use Rattle.refusal.specs.Refusals.{number_of}
use Rattle.real.specs.F64.{◌⊕◌, ◌⊖◌, ◌⊗◌, ◌⊘◌, two^, two^-, f1}
use Rattle.root.specs.Root.{root_of}
use Rattle.vector.specs.declared.State.{State}
use Rattle.table.specs.declared.Name.TheVariants.{Position, Velocity, Sin, Cos, Excess, Versine, Cot}
use Rattle.table.specs.declared.Part.TheVariants.{Whole}
use Rattle.table.specs.declared.Limit.TheVariants.{AtLeast, SizeAtMost}
use Rattle.vector.specs.Vectors.{position_of, velocity_of, dot_of, cross_of, length_of}
use Rattle.table.specs.Tests.{Entry, entry, first_failing}
use Rattle.rows.specs.Rows.{finite_number, finite_inputs, state_rows}
use Rattle.conic.specs.Conic.{c2_of, c2_row, p_row, p_n_of, straight_row}
use Rattle.reach.specs.declared.Arc.{Arc}
use Rattle.reach.specs.declared.Reached.{Reached}
use Rattle.reach.specs.declared.Reached.TheVariants as R
use Rattle.reach.specs.Reach.{cothalf_of, cothalf_row, reach_of}
use Rattle.theta.specs.declared.Sweep.{Sweep}
use Rattle.theta.specs.declared.TransferTime.{TransferTime as TransferTimeOf}
use Rattle.theta.specs.declared.TransferTime.TheVariants.{Time, TooLong, TooShort, Refused}

-- cot = (r·v)/|r×v|, p_N = ((r×v)·(r×v)/mu)/r
abbrev pub sweep_of : Float → State → Float → Float → Sweep
sweep_of mu s sin cos =
    let r = position_of s in
    let v = velocity_of s in
    let h = cross_of r v in
    record {
      r1 = length_of r;
      excess = (cos ⊗ cos ⊕ sin ⊗ sin) ⊖ f1;
      versine = f1 ⊖ cos;
      c2 = c2_of (length_of r) v mu;
      cot = dot_of r v ⊘ length_of h;
      pn = p_n_of h mu (length_of r);
      cothalf = cothalf_of sin cos;
    }

-- 1 to 4
abbrev pub input_rows : Float → State → Float → Float → Float → List Entry
input_rows mu s sin cos r1 =
    finite_inputs mu Position (position_of s) Velocity (velocity_of s) ++ finite_number Sin sin ++ finite_number Cos cos ++ state_rows mu s r1

-- 10: |(cos²+sin²)−1| > 2^-40 or 1−cos < 2^-20
abbrev pub angle_row : Sweep → List Entry
angle_row d = entry Refusal.AngleTooSmall Excess Whole d.excess (SizeAtMost (two^- 40)) ∷ entry Refusal.AngleTooSmall Versine Whole d.versine (AtLeast (two^- 20)) ∷ []

-- 6: |c2| < 2^6, |cot γ| ≤ 2^5, p_N ≤ 2^4, and Lambert's second
abbrev pub derived_row : Sweep → List Entry
derived_row d = c2_row d.c2 ++ (entry Refusal.DerivedOutOfRange Cot Whole d.cot (SizeAtMost (two^ 5)) ∷ p_row d.pn) ++ cothalf_row d.cothalf

-- the tests, in the order of the rows
abbrev pub theta_tests : Float → State → Float → Float → Sweep → List Entry
theta_tests mu s sin cos d = input_rows mu s sin cos d.r1 ++ angle_row d ++ derived_row d ++ straight_row d.pn

-- what steps 4 to 7 are given, with α_N = 1 − c2
abbrev pub arc_of : Float → Sweep → Arc
arc_of mu d = record {
  r1 = d.r1;
  rootr1 = root_of d.r1;
  rootmu = root_of mu;
  p = d.pn;
  cot = d.cot;
  alpha = f1 ⊖ d.c2;
  cothalf = d.cothalf;
}

-- whose refusal is a case of `Refusal`; TransferTimeOf R has a refusal of another type, as any number
abbrev pub TransferTime : Type 0
TransferTime = TransferTimeOf Refusal

-- over is 7, too long; under is 8, too short
unfoldable pub transfer_time_by : State → Reached → TransferTime
transfer_time_by s (R.Time t) = Time (record { time = t; state = s })
transfer_time_by s (R.Under e) = TooShort
transfer_time_by s (R.Over e) = TooLong

-- a refusal keeps the number of the test that failed
unfoldable pub answered : Result Unit Entry → TransferTime → TransferTime
answered (Ok tt) x = x
answered (Err e) x = Refused e.refusal

abbrev pub theta_from : Float → State → Float → Float → Sweep → TransferTime
theta_from mu s sin cos d = answered (first_failing (theta_tests mu s sin cos d)) (transfer_time_by s (reach_of (arc_of mu d)))

abbrev pub theta_of : Float → State → Float → Float → TransferTime
theta_of mu s sin cos = theta_from mu s sin cos (sweep_of mu s sin cos)

-- the refusal's number, and 0 for a time
unfoldable pub transfer_time_number : TransferTime → ℕ
transfer_time_number (Time t) = 0
transfer_time_number TooLong = 7
transfer_time_number TooShort = 8
transfer_time_number (Refused n) = number_of n
