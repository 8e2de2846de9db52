-- The sight line, in the operations of f64 and in their order. Assumes nothing: these are definitions.
use Rattle.refusal.specs.declared.Refusal.{Refusal}
use Rattle.std.specs.Prelude.{ℕ, List, [], ◌∷◌, ◌++◌, pos, Float, Err, Ok, Result}
use Rattle.refusal.specs.Refusals.{number_of}
use Rattle.std.specs.Float.Ieee.{neg, of_int}
use Rattle.std.specs.Float.{binary64}
use Rattle.real.specs.F64.{◌⊕◌, ◌⊖◌, ◌⊗◌, bits, two^-, f0}
use Rattle.root.specs.Root.{root_of}
use Rattle.vector.specs.declared.Vector.{Vector}
use Rattle.vector.specs.Vectors.{dot_of, length_of, scaled_of, sum_of}
use Rattle.table.specs.declared.Name.{Name}
use Rattle.table.specs.declared.Name.TheVariants.{Active, Passive, Elevation, Horizontal, Vertical, Radicand}
use Rattle.table.specs.declared.Part.TheVariants.{Length, Whole}
use Rattle.table.specs.declared.Limit.TheVariants.{AtLeast, AtMost, OneWithin}
use Rattle.table.specs.Tests.{Entry, entry, first_failing}
use Rattle.rows.specs.Rows.{finite_vector, position_row}
use Rattle.wheel.specs.declared.Direction.{Direction}
use Rattle.wheel.specs.Wheel.{direction_of}
use Rattle.sight.specs.declared.Line.{Line}
use Rattle.sight.specs.declared.Points.{Points}

-- u = cosE·horizontal + sinE·vertical
abbrev pub elevated_of : Direction → Vector → Vector → Vector
elevated_of d h v = sum_of (scaled_of d.cosine h) (scaled_of d.sine v)

-- b = A·u, radicand = b·b − (A·A − P·P)
abbrev pub line_of : Vector → Vector → Vector → Line
line_of a p u = let b = dot_of a u in record { u = u; b = b; radicand = b ⊗ b ⊖ (dot_of a a ⊖ dot_of p p) }

-- A + k·u
abbrev pub sight_point : Vector → Float → Vector → Vector
sight_point a k u = sum_of a (scaled_of k u)

-- 1: an input number is infinite or not a number, the positions and then the axes
abbrev pub finite_row : Vector → Vector → Vector → Vector → List Entry
finite_row a p h v = finite_vector Active a ++ finite_vector Passive p ++ finite_vector Horizontal h ++ finite_vector Vertical v

-- 3: either position
abbrev pub position_rows : Vector → Vector → List Entry
position_rows a p = position_row Active a (length_of a) ++ position_row Passive p (length_of p)

-- 16: E over 3,599
abbrev pub wheel_row : ℕ → List Entry
wheel_row e = entry Refusal.ElevationOutOfRange Elevation Whole (of_int binary64 (pos e)) (AtMost (bits 0x40ac_1e00_0000_0000)) ∷ []

-- 17: the length is not 1 within 2^-40
abbrev pub unit_row : Name → Vector → List Entry
unit_row name a = entry Refusal.NotUnit name Length (length_of a) (OneWithin (two^- 40)) ∷ []

abbrev pub input_tests : Vector → Vector → ℕ → Vector → Vector → List Entry
input_tests a p e h v = finite_row a p h v ++ position_rows a p ++ wheel_row e ++ unit_row Horizontal h ++ unit_row Vertical v

-- 18: the radicand is negative
abbrev pub radicand_row : Line → List Entry
radicand_row l = entry Refusal.NoCrossing Radicand Whole l.radicand (AtLeast f0) ∷ []

-- k = −b ± √radicand, the larger first, and the points at both
abbrev pub points_of : Vector → Line → Points
points_of a l =
    let root = root_of l.radicand in
    let larger = neg l.b ⊕ root in
    let smaller = neg l.b ⊖ root in
    record { larger = larger; smaller = smaller; first = sight_point a larger l.u; second = sight_point a smaller l.u }

unfoldable pub answered : Result Unit Entry → Vector → Line → Result Points Refusal
answered (Ok tt) a l = Ok (points_of a l)
answered (Err f) a l = Err f.refusal

-- the sight line of E, and the rows in the order of the request
abbrev pub sight_line : Vector → Vector → ℕ → Vector → Vector → Line
sight_line a p e h v = line_of a p (elevated_of (direction_of e) h v)

abbrev pub sight_tests : Vector → Vector → ℕ → Vector → Vector → List Entry
sight_tests a p e h v = input_tests a p e h v ++ radicand_row (sight_line a p e h v)

abbrev pub sight_of : Vector → Vector → ℕ → Vector → Vector → Result Points Refusal
sight_of a p e h v = answered (first_failing (sight_tests a p e h v)) a (sight_line a p e h v)

-- the refusal's number, and 0 for an answer
unfoldable pub sight_number : Result Points Refusal → ℕ
sight_number (Ok x) = 0
sight_number (Err n) = number_of n
