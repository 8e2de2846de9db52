-- Periapo: the apsides, in the operations of f64 and in their order. Assumes nothing: these are definitions.
use Rattle.std.specs.Prelude.{ℕ, cond, ◌&&◌, List, [], ◌∷◌, ◌++◌, Float, Result, Ok, Err}
use Rattle.refusal.specs.declared.Refusal.{Refusal}
use Rattle.refusal.specs.Refusals.{number_of}
use Rattle.real.specs.F64.{◌⊕◌, ◌⊖◌, ◌⊗◌, ◌⊘◌, ◌<ᶠ◌, two^, f0, f1}
use Rattle.root.specs.Root.{root_of}
use Rattle.vector.specs.declared.State.{State}
use Rattle.table.specs.declared.Name.TheVariants.{Position, Velocity, E}
use Rattle.table.specs.declared.Part.TheVariants.{Whole}
use Rattle.table.specs.declared.Limit.TheVariants.{Under}
use Rattle.vector.specs.Vectors.{position_of, velocity_of, cross_of, length_of}
use Rattle.table.specs.Tests.{Entry, entry, first_failing}
use Rattle.rows.specs.Rows.{finite_inputs, state_rows}
use Rattle.conic.specs.Conic.{c2_of, p_of, c2_row, p_row, p_n_of, straight_row}
use Rattle.apsides.specs.declared.Shape.{Shape}
use Rattle.apsides.specs.declared.Apsides.{Apsides as ApsidesOf}
use Rattle.apsides.specs.declared.Apsides.TheVariants.{Closed, Open, Refused}

-- a negative radicand is taken as 0
unfoldable pub radicand_of : Float → Float
radicand_of x = cond (x <ᶠ f0) f0 x

-- p = (r×v)·(r×v)/mu; p_N = p/r; α_N = 1 − c2; e = √(1 − (p/r)·α_N)
abbrev pub shape_of : Float → State → Shape
shape_of mu s =
    let r1 = length_of (position_of s) in
    let c2 = c2_of r1 (velocity_of s) mu in
    let h = cross_of (position_of s) (velocity_of s) in
    record {
      r1 = r1;
      c2 = c2;
      alpha = f1 ⊖ c2;
      p = p_of h mu;
      pn = p_n_of h mu r1;
      e = root_of (radicand_of (f1 ⊖ p_n_of h mu r1 ⊗ (f1 ⊖ c2)));
    }

-- 6: |c2| < 2^6, p_N = p/r ≤ 2^4, e < 2^3
abbrev pub derived_row : Shape → List Entry
derived_row d = c2_row d.c2 ++ p_row d.pn ++ (entry Refusal.DerivedOutOfRange E Whole d.e (Under (two^ 3)) ∷ [])

-- rows 1 to 4, 6 and 19
abbrev pub apsides_tests : Float → State → Shape → List Entry
apsides_tests mu s d = finite_inputs mu Position (position_of s) Velocity (velocity_of s) ++ state_rows mu s d.r1 ++ derived_row d ++ straight_row d.pn

-- whose refusal is a case of `Refusal`; ApsidesOf R has a refusal of another type, as any number
abbrev pub Apsides : Type 0
Apsides = ApsidesOf Refusal

-- near = p/(1 + e); closed, with far = p/(1 − e), if α_N > 0 and 1 − e > 0 and far < 2^29; otherwise open, with near only
unfoldable pub distances_of : Shape → Apsides
distances_of d =
    let near = d.p ⊘ (f1 ⊕ d.e) in
    let far = d.p ⊘ (f1 ⊖ d.e) in
    cond (f0 <ᶠ d.alpha && f0 <ᶠ f1 ⊖ d.e && far <ᶠ two^ 29) (Closed near far) (Open near)

unfoldable pub answered : Result Unit Entry → Shape → Apsides
answered (Ok tt) d = distances_of d
answered (Err e) d = Refused e.refusal

abbrev pub apsides_of : Float → State → Apsides
apsides_of mu s = answered (first_failing (apsides_tests mu s (shape_of mu s))) (shape_of mu s)

-- the refusal's number, and 0 for an answer
unfoldable pub apsides_number : Apsides → ℕ
apsides_number (Closed near far) = 0
apsides_number (Open near) = 0
apsides_number (Refused n) = number_of n
