-- What is met of a vector's components is finite. Assumes nothing.
use mathlib.Core.Path.{◌≡◌, refl}
use mathlib.Core.Bool.{Bool, true, ◌&&◌}
use lib.Ieee.{of_bits}
use Rattle.facts.proofs.Truth.{and_0, and-1}
use Rattle.refusal.specs.declared.Refusal.{Refusal}
use Rattle.real.specs.F64.{◌≤ᶠ◌, ◌<ᶠ◌, finite, two^, size_of}
use Rattle.real.proofs.Finite.{size-under, size-at-most}
use Rattle.table.specs.declared.Name.{Name}
use Rattle.table.specs.Tests.{all_meet}
use Rattle.vector.specs.declared.Vector.{Vector}
use Rattle.rows.specs.Rows.{position_components, velocity_components}

-- three finite numbers
pub record Finite (a : Vector) : Type 0 where
  pub x : finite a.x ≡ true
  pub y : finite a.y ≡ true
  pub z : finite a.z ≡ true

pub position-finite : (n : Refusal) (name : Name) (r : Vector) → all_meet (position_components n name r) ≡ true → Finite r
unfolding of_bits
position-finite n name r h =
    let x : Bool = size_of r.x <ᶠ two^ 29 in
    let y : Bool = size_of r.y <ᶠ two^ 29 in
    let z : Bool = size_of r.z <ᶠ two^ 29 in
    let yz = and-1 x (y && (z && true)) h in
    record {
      x = size-under r.x (two^ 29) refl (and_0 x (y && (z && true)) h);
      y = size-under r.y (two^ 29) refl (and_0 y (z && true) yz);
      z = size-under r.z (two^ 29) refl (and_0 z true (and-1 y (z && true) yz));
    }

pub velocity-finite : (n : Refusal) (name : Name) (v : Vector) → all_meet (velocity_components n name v) ≡ true → Finite v
unfolding of_bits
velocity-finite n name v h =
    let x : Bool = size_of v.x ≤ᶠ two^ 7 in
    let y : Bool = size_of v.y ≤ᶠ two^ 7 in
    let z : Bool = size_of v.z ≤ᶠ two^ 7 in
    let yz = and-1 x (y && (z && true)) h in
    record {
      x = size-at-most v.x (two^ 7) refl (and_0 x (y && (z && true)) h);
      y = size-at-most v.y (two^ 7) refl (and_0 y (z && true) yz);
      z = size-at-most v.z (two^ 7) refl (and_0 z true (and-1 y (z && true) yz));
    }
