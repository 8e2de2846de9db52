-- The formulas of the constant-height burn, in the operations of f64 and in their order: the angle from the passive vehicle to the
-- active one, the passive orbit at the point in line, and the active vehicle's velocity on the coelliptic orbit.
-- Assumes nothing: these are definitions.
use Rattle.std.specs.Prelude.{Float}
use Rattle.real.specs.F64.{◌⊕◌, ◌⊖◌, ◌⊗◌, ◌⊘◌, f1, f2}
use Rattle.root.specs.Root.{root_of}
use Rattle.vector.specs.declared.Vector.{Vector}
use Rattle.vector.specs.declared.State.{State}
use Rattle.vector.specs.Vectors.{position_of, velocity_of, dot_of, cross_of, length_of, scaled_of, sum_of, difference_of, divided_of}
use Rattle.conic.specs.Conic.{c2_of}
use Rattle.coelliptic.specs.declared.Angle.{Angle}
use Rattle.coelliptic.specs.declared.Passive.{Passive}
use Rattle.coelliptic.specs.declared.Speeds.{Speeds}

-- a/|a|
unfoldable pub unit_of : Vector → Vector
unit_of a = divided_of a (length_of a)

-- (r×v)/|r×v|
unfoldable pub normal_of : State → Vector
normal_of s = unit_of (cross_of (position_of s) (velocity_of s))

-- 1: q = r − d·n with d = r·n
unfoldable pub projected_of : Vector → Vector → Vector
projected_of r n = difference_of r (scaled_of (dot_of r n) n)

-- cos = uP·uA, sin = (uP×uA)·n
abbrev pub turned_by : Vector → Vector → Vector → Angle
turned_by uP uA n = record { sin = dot_of (cross_of uP uA) n; cos = dot_of uP uA }

-- n is the passive normal, uA the active position projected into the passive plane and made length 1, uP = rP/|rP|
unfoldable pub angle_of : State → State → Angle
angle_of active passive =
    let n = normal_of passive in
    turned_by (unit_of (position_of passive)) (unit_of (projected_of (position_of active) n)) n

-- 3, 4: of the passive vehicle at the point in line: rC, α = (1 − c2)/rC, aP = 1/α, vP = (r·v)/rC
unfoldable pub passive_of : Float → State → Passive
passive_of mu c =
    let rC = length_of (position_of c) in
    let alpha = (f1 ⊖ c2_of rC (velocity_of c) mu) ⊘ rC in
    record { r = rC; alpha = alpha; a = f1 ⊘ alpha; radial = dot_of (position_of c) (velocity_of c) ⊘ rC }

-- 3: aA = aP + (rA − rC)
abbrev pub axis_of : Passive → Float → Float
axis_of p rA = p.a ⊕ (rA ⊖ p.r)

-- 4: s = aP/aA; vA = (vP·s)·√s; radicand = mu·((2/rA) − (1/aA)) − vA·vA
unfoldable pub speeds_of : Float → Passive → Float → Float → Speeds
speeds_of mu p rA aA =
    let s = p.a ⊘ aA in
    let vA = (p.radial ⊗ s) ⊗ root_of s in
    record { radial = vA; radicand = mu ⊗ ((f2 ⊘ rA) ⊖ (f1 ⊘ aA)) ⊖ vA ⊗ vA }

-- 5: new = vA·w + h·(m×w), with m the active normal, w = rA/|rA| and h = √radicand
unfoldable pub new_of : State → Speeds → Vector
new_of active v =
    let w = unit_of (position_of active) in
    sum_of (scaled_of v.radial w) (scaled_of (root_of v.radicand) (cross_of (normal_of active) w))
