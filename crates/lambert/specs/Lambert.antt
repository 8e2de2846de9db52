-- Lambert: two positions and a time give a velocity, in the operations of f64 and in their order. Assumes nothing: these are definitions.
use Rattle.std.specs.Prelude.{cond, not, List, [], ◌∷◌, ◌++◌, ℤ, Float, Result, Ok, Err}
use Rattle.refusal.specs.declared.Refusal.TheVariants as Refusal
use Rattle.std.specs.Float.Ieee.{neg}
use Rattle.real.specs.F64.{◌⊕◌, ◌⊖◌, ◌⊗◌, ◌⊘◌, ◌≤ᶠ◌, ◌<ᶠ◌, two^, two^-, f0, f1, f2}
use Rattle.root.specs.Root.{root_of}
use Rattle.vector.specs.declared.Vector.{Vector}
use Rattle.table.specs.declared.Name.TheVariants as N
use Rattle.table.specs.declared.Name.{Name}
use Rattle.table.specs.declared.Name.TheVariants.{First, Second, Velocity, Time, Cross, Versine, Ratio, P, Den}
use Rattle.table.specs.declared.Part.TheVariants.{Length, Whole}
use Rattle.table.specs.declared.Limit.{Limit}
use Rattle.table.specs.declared.Limit.TheVariants as L
use Rattle.table.specs.declared.Limit.TheVariants.{AtLeast, OneWithin}
use Rattle.vector.specs.Vectors.{dot_of, cross_of, length_of, scaled_of, sum_of, divided_of, negated_of}
use Rattle.table.specs.Tests.{Entry, entry}
use Rattle.rows.specs.Rows.{finite_number, finite_vector, finite_inputs, mu_row, position_row, velocity_components, transfer_time_row}
use Rattle.conic.specs.Conic.{grid_of, range_test}
use Rattle.iterator.specs.declared.Judgement.{Judgement}
use Rattle.iterator.specs.declared.Judgement.TheVariants as J
use Rattle.iterator.specs.Judged.{judged_of}
use Rattle.reach.specs.declared.Arc.{Arc}
use Rattle.reach.specs.declared.Reached.{Reached}
use Rattle.reach.specs.declared.Reached.TheVariants as R
use Rattle.reach.specs.Reach.{cothalf_of, cothalf_row, reach_of}
use Rattle.lambert.specs.declared.Way.{Way}
use Rattle.lambert.specs.declared.Way.TheVariants.{Short, Long, Normal}
use Rattle.lambert.specs.declared.Turn.{Turn}
use Rattle.lambert.specs.declared.Transfer.{Transfer}

-- sinθ = |u1×u2|, negated for the long way round; normal = (u1×u2)/|u1×u2|, negated likewise; with a normal given, sinθ = (u1×u2)·normal
unfoldable pub turn_of : Vector → Vector → Way → Turn
turn_of u1 u2 Short =
    let h = cross_of u1 u2 in
    record { size = length_of h; sin = length_of h; normal = divided_of h (length_of h) }
turn_of u1 u2 Long =
    let h = cross_of u1 u2 in
    record { size = length_of h; sin = neg (length_of h); normal = negated_of (divided_of h (length_of h)) }
turn_of u1 u2 (Normal n) =
    let h = cross_of u1 u2 in
    record { size = length_of h; sin = dot_of h n; normal = n }

-- ratio = r1/r2, and the numbers that every trial needs
abbrev pub shared_of : Float → Float → Float → Vector → Float → Turn → Transfer
shared_of mu r1 r2 u1 cos turn = record {
  mu = mu;
  r1 = r1;
  r2 = r2;
  rootmu = root_of mu;
  rootr1 = root_of r1;
  ratio = r1 ⊘ r2;
  cos = cos;
  size = turn.size;
  sin = turn.sin;
  cothalf = cothalf_of turn.sin cos;
  u1 = u1;
  normal = turn.normal;
}

-- u = r/|r|; cosθ = u1·u2
unfoldable pub transfer_of : Float → Vector → Vector → Way → Transfer
transfer_of mu first second way =
    let r1 = length_of first in
    let r2 = length_of second in
    let u1 = divided_of first r1 in
    let u2 = divided_of second r2 in
    shared_of mu r1 r2 u1 (dot_of u1 u2) (turn_of u1 u2 way)

-- 3, of both positions
abbrev pub position_rows : Vector → Vector → Transfer → List Entry
position_rows first second d = position_row First first d.r1 ++ position_row Second second d.r2

-- 1, of a normal that is given
abbrev pub normal_input : Way → List Entry
normal_input Short = []
normal_input Long = []
normal_input (Normal n) = finite_vector N.Normal n

-- 1, of mu, the positions, the time and a normal that is given
abbrev pub input_row : Float → Vector → Vector → Way → Float → List Entry
input_row mu first second way t = finite_inputs mu First first Second second ++ finite_number Time t ++ normal_input way

-- 10 with a normal given: 1 − cosθ < 2^-20, or the normal's length not 1 within 2^-40
abbrev pub normal_row : Vector → Float → List Entry
normal_row n cos = entry Refusal.AngleTooSmall Versine Whole (f1 ⊖ cos) (AtLeast (two^- 20)) ∷ entry Refusal.AngleTooSmall N.Normal Length (length_of n) (OneWithin (two^- 40)) ∷ []

-- 10: |u1×u2| < 2^-10
abbrev pub angle_row : Way → Transfer → List Entry
angle_row Short d = entry Refusal.AngleTooSmall Cross Whole d.size (AtLeast (two^- 10)) ∷ []
angle_row Long d = entry Refusal.AngleTooSmall Cross Whole d.size (AtLeast (two^- 10)) ∷ []
angle_row (Normal n) d = normal_row n d.cos

-- 6: r1/r2 < 2^7, |sinθ/(1−cosθ)| ≤ 2^5
abbrev pub derived_row : Transfer → List Entry
derived_row d = entry Refusal.DerivedOutOfRange Ratio Whole d.ratio (L.Under (two^ 7)) ∷ cothalf_row d.cothalf

-- 2, 3, 5, 10 and 6
abbrev pub range_rows : Float → Vector → Vector → Way → Float → Transfer → List Entry
range_rows mu first second way t d =
    mu_row mu ++ position_rows first second d ++ transfer_time_row t ++ angle_row way d ++ derived_row d

-- the tests ahead of the first trial, in the order of the rows
abbrev pub lambert_tests : Float → Vector → Vector → Way → Float → Transfer → List Entry
lambert_tests mu first second way t d = input_row mu first second way t ++ range_rows mu first second way t d

-- 1. den = (ratio − cosθ) + sinθ·cot
abbrev pub den_of : Transfer → Float → Float
den_of d cot = (d.ratio ⊖ d.cos) ⊕ d.sin ⊗ cot

-- 2. p = (1 − cosθ)/den
abbrev pub p_of : Transfer → Float → Float
p_of d cot = (f1 ⊖ d.cos) ⊘ den_of d cot

-- 3. α_N = 2 − p·(1 + cot·cot)
abbrev pub alpha_of : Float → Float → Float
alpha_of p cot = f2 ⊖ p ⊗ (f1 ⊕ cot ⊗ cot)

-- what steps 4 to 7 are given
abbrev pub arc_of : Transfer → Float → Float → Arc
arc_of d p cot = record {
  r1 = d.r1;
  rootr1 = d.rootr1;
  rootmu = d.rootmu;
  p = p;
  cot = cot;
  alpha = alpha_of p cot;
  cothalf = d.cothalf;
}

-- under if sinθ > 0, else over; a sinθ of 0 counts as positive
unfoldable pub side_of : Float → Name → Float → Limit → Reached
side_of sin name amount limit = cond (f0 ≤ᶠ sin) (R.Under (range_test Refusal.TooShort name amount limit)) (R.Over (range_test Refusal.TooLong name amount limit))

-- Unless den > 0, or if p > 16: the side above. Then 4 to 7.
unfoldable pub reach_at : Transfer → Float → Reached
reach_at d cot =
    let p = p_of d cot in
    cond (not (f0 <ᶠ den_of d cot)) (side_of d.sin Den (den_of d cot) (L.Over f0))
    (cond (not (p ≤ᶠ two^ 4)) (side_of d.sin P p (L.AtMost (two^ 4))) (reach_of (arc_of d p cot)))

-- a time is judged against the time asked for
unfoldable pub judged_reach : Float → Reached → Judgement
judged_reach asked (R.Time t) = judged_of asked t
judged_reach asked (R.Under e) = J.Under
judged_reach asked (R.Over e) = J.Over

-- cot γ = n·2^-20
abbrev pub lambert_judge : Transfer → Float → ℤ → Judgement
lambert_judge d asked n = judged_reach asked (reach_at d (grid_of n))

-- the range test that stopped it; passed where it has a time
unfoldable pub stopped_by : Reached → Result Unit Entry
stopped_by (R.Time t) = Ok tt
stopped_by (R.Under e) = Err e
stopped_by (R.Over e) = Err e

abbrev pub lambert_stop : Transfer → ℤ → Result Unit Entry
lambert_stop d n = stopped_by (reach_at d (grid_of n))

-- √((mu·p)/r1)·(cot·u1 + normal×u1)
abbrev pub velocity_by : Transfer → Float → Vector
velocity_by d cot =
    scaled_of (root_of (d.mu ⊗ p_of d cot ⊘ d.r1)) (sum_of (scaled_of cot d.u1) (cross_of d.normal d.u1))

abbrev pub velocity_at : Transfer → ℤ → Vector
velocity_at d n = velocity_by d (grid_of n)

-- 9: each velocity component at most 2^7 in size
abbrev pub result_row : Vector → List Entry
result_row v = velocity_components Refusal.ResultOutOfRange Velocity v
