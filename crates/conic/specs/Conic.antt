-- The formulas that the conic routines share, in the operations of f64 and in their order. Assumes nothing: these are definitions.
use Rattle.series.specs.declared.Pair.{Pair}
use Rattle.conic.specs.declared.Point.{Point}
use Rattle.refusal.specs.declared.Refusal.{Refusal}
use Rattle.std.specs.Prelude.{cond, List, [], ◌∷◌, ℤ, Float, Err, Ok, Result}
use Rattle.std.specs.Float.{binary64}
use Rattle.std.specs.Float.Ieee.{of_int}
use Rattle.real.specs.F64.{◌⊕◌, ◌⊖◌, ◌⊗◌, ◌⊘◌, ◌≤ᶠ◌, two^, two^-, f1}
use Rattle.series.specs.Series.{least_xi, most_xi, both_answer}
use Rattle.vector.specs.declared.Vector.{Vector}
use Rattle.table.specs.declared.Name.{Name}
use Rattle.table.specs.declared.Name.TheVariants.{C2, P, Xi}
use Rattle.table.specs.declared.Part.TheVariants.{Whole}
use Rattle.table.specs.declared.Limit.{Limit}
use Rattle.table.specs.declared.Limit.TheVariants.{AtLeast, AtMost, SizeUnder}
use Rattle.vector.specs.Vectors.{dot_of}
use Rattle.table.specs.declared.Entry.{Entry as EntryOf}
use Rattle.table.specs.Tests.{Entry, entry}
use Rattle.conic.specs.declared.Orbit.{Orbit}

-- n·2^-20
abbrev pub grid_of : ℤ → Float
grid_of n = of_int binary64 n ⊗ two^- 20

-- c2 = |r|·(v·v)/mu − 1
abbrev pub c2_of : Float → Vector → Float → Float
c2_of r1 v mu = r1 ⊗ dot_of v v ⊘ mu ⊖ f1

-- p = (r×v)·(r×v)/mu, with h = r×v
abbrev pub p_of : Vector → Float → Float
p_of h mu = dot_of h h ⊘ mu

-- p_N = p/r
abbrev pub p_n_of : Vector → Float → Float → Float
p_n_of h mu r1 = p_of h mu ⊘ r1

-- 6: |c2| < 2^6, and p_N ≤ 2^4
abbrev pub c2_row : Float → List Entry
c2_row c2 = entry Refusal.DerivedOutOfRange C2 Whole c2 (SizeUnder (two^ 6)) ∷ []

abbrev pub p_row : Float → List Entry
p_row pN = entry Refusal.DerivedOutOfRange P Whole pN (AtMost (two^ 4)) ∷ []

-- 19: p_N < 2^-20, a straight fall
abbrev pub straight_row : Float → List Entry
straight_row pN = entry Refusal.StraightFall P Whole pN (AtLeast (two^- 20)) ∷ []

-- t = (c1·(z·c) + x·(c2·(z·s) + r1))/√mu
abbrev pub time_of : Orbit → Float → Float → Float → Float → Float
time_of o x z c s = (o.c1 ⊗ (z ⊗ c) ⊕ x ⊗ (o.c2 ⊗ (z ⊗ s) ⊕ o.r1)) ⊘ o.rootmu

-- a range test that stops a trial: 7 where it is over, 8 where it is under
abbrev pub range_test : {R : Type 0} → R → Name → Float → Limit → EntryOf R
range_test refusal name amount limit = entry refusal name Whole amount limit

-- −50 ≤ ξ ≤ 40: the first of the two that a ξ outside fails
unfoldable pub outside_of : Float → Entry
outside_of xi = cond (least_xi ≤ᶠ xi) (range_test Refusal.TooLong Xi xi (AtMost most_xi)) (range_test Refusal.TooLong Xi xi (AtLeast least_xi))

-- the trial's numbers from c and s: none where ξ is outside its range
unfoldable pub trial_of : Orbit → Float → Float → Result Pair Refusal → Result Point Entry
trial_of o x xi (Err n) = Err (outside_of xi)
trial_of o x xi (Ok p) = Ok (record { x = x; z = x ⊗ x; xi = xi; c = p.c; s = p.s; t = time_of o x (x ⊗ x) p.c p.s })

unfoldable pub point_at : Orbit → Float → Float → Result Point Entry
point_at o x xi = trial_of o x xi (both_answer xi)
