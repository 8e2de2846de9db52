-- Every line fits 512 bytes. Assumes nothing.
use Rattle.std.specs.Prelude.{Err, Ok, Result}
use Rattle.refusal.specs.Refusals.{number_of}
use Rattle.refusal.specs.declared.Refusal.{Refusal}
use Prim.Native.Nat.{ℕ, ◌≤◌}
use native.Mathlib.Omega.{arith}
use mathlib.Core.List.{[], ◌∷◌}
use lib.ListN.{length-append}
use Rattle.text.specs.Text.{ascii}
use Rattle.text.proofs.Lays.{size, concat-append}
use Rattle.columns.proofs.RowLaws.{end_short, labelled-short, refused-fits}
use Rattle.wheel.specs.declared.Direction.{Direction}
use Rattle.sight.specs.declared.Points.{Points}
use Rattle.views.specs.Views.{direction_pieces, points_pieces, wheel_pieces_by, sight_pieces_by, wheel_pieces, sight_pieces}

direction-short : (d : Direction) → size (direction_pieces d) ≤ 512
unfolding direction_pieces
direction-short d =
    simp (concat-append, length-append)
    (omega (arith, labelled-short (ascii "sine") (d.sine ∷ []), labelled-short (ascii " cosine") (d.cosine ∷ []), end_short (d.sine ∷ d.cosine ∷ [])))

points-short : (p : Points) → size (points_pieces p) ≤ 512
unfolding points_pieces
points-short p =
    let f = p.first in
    let s = p.second in
    simp (concat-append, length-append)
    (omega (
      arith,
      labelled-short (ascii "points k") (p.larger ∷ p.smaller ∷ []),
      labelled-short (ascii " first") (f.x ∷ f.y ∷ f.z ∷ []),
      labelled-short (ascii " second") (s.x ∷ s.y ∷ s.z ∷ []),
      end_short (p.larger ∷ p.smaller ∷ f.x ∷ f.y ∷ f.z ∷ s.x ∷ s.y ∷ s.z ∷ []),
    ))

pub wheel-by-fits : {R : Type 0} (number : R → ℕ) (a : Result Direction R) → size (wheel_pieces_by number a) ≤ 512
wheel-by-fits number (Ok d) = direction-short d
wheel-by-fits number (Err n) = refused-fits (number n)

pub sight-by-fits : {R : Type 0} (number : R → ℕ) (a : Result Points R) → size (sight_pieces_by number a) ≤ 512
sight-by-fits number (Ok p) = points-short p
sight-by-fits number (Err n) = refused-fits (number n)

pub wheel-fits : (a : Result Direction Refusal) → size (wheel_pieces a) ≤ 512
wheel-fits a = wheel-by-fits number_of a

pub sight-fits : (a : Result Points Refusal) → size (sight_pieces a) ≤ 512
sight-fits a = sight-by-fits number_of a
