-- The constant-height burn as a number and a case. Assumes nothing: these are definitions.
use Rattle.std.specs.Prelude.{ℕ, ◌&&◌, List, [], ◌∷◌, leb, length, ℤ, Float, Result, Ok, Err}
use Rattle.refusal.specs.declared.Refusal.{Refusal}
use Rattle.burn.specs.declared.Centre.{Centre}
use Rattle.burn.specs.declared.Burn.{Burn}
use Rattle.burn.specs.declared.Burn.TheVariants as B
use Rattle.burn.specs.Burn.{burn_of}
use Rattle.lent.specs.Given.{Told, answer, refused, room_for, state_in}

-- the change, and the apsides after it: closed is case 0, with near and far; open is case 1, with near alone

unfoldable pub change_told : Burn → Told
change_told (B.Closed v near far) = answer (v.x ∷ v.y ∷ v.z ∷ near ∷ far ∷ []) (0 ∷ [])
change_told (B.Open v near) = answer (v.x ∷ v.y ∷ v.z ∷ near ∷ []) (1 ∷ [])

unfoldable pub burn_told : Result Burn Refusal → Told
burn_told (Ok b) = change_told b
burn_told (Err r) = refused r

abbrev pub burn_in : Centre → List Float → ℤ → List Float → ℤ → ℤ → ℤ → List Float → List ℕ → Told
burn_in k a ta p tp t2 t3 d w =
    room_for
    (leb 6 (length a) && leb 6 (length p) && leb 5 (length d) && leb 1 (length w))
    (burn_told (burn_of k (state_in a) ta (state_in p) tp t2 t3))
