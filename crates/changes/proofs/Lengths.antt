-- Every line fits 512 bytes. Assumes nothing.
use Prim.Native.Nat.{ℕ, ◌≤◌}
use Rattle.std.specs.Prelude.{Result, Ok, Err}
use Rattle.refusal.specs.declared.Refusal.{Refusal}
use Rattle.refusal.specs.Refusals.{number_of}
use native.Mathlib.Omega.{arith}
use mathlib.Core.List.{[], ◌∷◌}
use lib.ListN.{length-append}
use lib.Ieee.{Float}
use Rattle.text.specs.Text.{ascii}
use Rattle.text.proofs.Lays.{size, concat-append}
use Rattle.columns.proofs.RowLaws.{end_short, labelled-short, refused-fits}
use Rattle.vector.specs.declared.Vector.{Vector}
use Rattle.burn.specs.declared.Burn.{Burn}
use Rattle.burn.specs.declared.Burn.TheVariants.{Closed, Open}
use Rattle.changes.specs.Changes.{closed_pieces, open_pieces, change_pieces, burn_pieces_by, burn_pieces}

closed-short : (d : Vector) (near far : Float) → size (closed_pieces d near far) ≤ 512
unfolding closed_pieces
closed-short d near far =
    simp (concat-append, length-append)
    (omega (
      arith,
      labelled-short (ascii "change") (d.x ∷ d.y ∷ d.z ∷ []),
      labelled-short (ascii " closed near") (near ∷ []),
      labelled-short (ascii " far") (far ∷ []),
      end_short (d.x ∷ d.y ∷ d.z ∷ near ∷ far ∷ []),
    ))

open-short : (d : Vector) (near : Float) → size (open_pieces d near) ≤ 512
unfolding open_pieces
open-short d near =
    simp (concat-append, length-append)
    (omega (
      arith,
      labelled-short (ascii "change") (d.x ∷ d.y ∷ d.z ∷ []),
      labelled-short (ascii " open near") (near ∷ []),
      end_short (d.x ∷ d.y ∷ d.z ∷ near ∷ []),
    ))

change-fits : (b : Burn) → size (change_pieces b) ≤ 512
change-fits (Closed d near far) = closed-short d near far
change-fits (Open d near) = open-short d near

pub burn-by-fits : {R : Type 0} (number : R → ℕ) (a : Result Burn R) → size (burn_pieces_by number a) ≤ 512
burn-by-fits number (Ok b) = change-fits b
burn-by-fits number (Err r) = refused-fits (number r)

pub burn-fits : (a : Result Burn Refusal) → size (burn_pieces a) ≤ 512
burn-fits a = burn-by-fits number_of a
