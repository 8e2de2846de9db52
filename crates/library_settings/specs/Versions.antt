-- Settings looked up, stored and gone back to, as a number and a case. Assumes nothing: these are definitions.
use Rattle.refusal.specs.declared.Refusal.{Refusal}
use Rattle.std.specs.Prelude.{ℕ, cond, ◌&&◌, List, [], ◌∷◌, leb, length, take, Float, Err, Ok, Result}
use Rattle.settings.specs.declared.allowed.Setting.{Setting}
use Rattle.settings.specs.History.{look_up, version_in, stored_of, back_of, buffer_after}
use Rattle.lent.specs.Given.{Told, answer, refused, room_for}

-- ---- a version: mu, the radius, the two fractions; the body

unfoldable pub looked_told : Result Setting Refusal → Told
looked_told (Ok x) = answer (x.mu ∷ x.radius ∷ x.closed ∷ x.fair ∷ []) (x.body ∷ [])
looked_told (Err n) = refused n

abbrev pub look_in : List ℕ → ℕ → List Float → List ℕ → Told
look_in s k d w = room_for (leb 4 (length d) && leb 1 (length w)) (looked_told (look_up s k))

-- ---- a version stored: its number, the place behind it

unfoldable pub stored_told : Result (ℕ × ℕ) Refusal → Told
stored_told (Ok (k, r)) = answer [] (k ∷ r ∷ [])
stored_told (Err n) = refused n

abbrev pub store_in : List ℕ → ℕ → Setting → List ℕ → Told
store_in d used x w = room_for (leb 2 (length w)) (stored_told (stored_of d used x))

-- the buffer afterwards: as it was where the call is refused
abbrev pub store_after : List ℕ → ℕ → Setting → List ℕ → List ℕ
store_after d used x w = cond (leb 2 (length w)) (buffer_after (stored_of d used x) d used x) d

-- ---- gone back

abbrev pub back_in : List ℕ → ℕ → ℕ → List ℕ → Told
back_in d used k w = room_for (leb 2 (length w)) (stored_told (back_of d used k))

abbrev pub back_after : List ℕ → ℕ → ℕ → List ℕ → List ℕ
back_after d used k w = cond (leb 2 (length w)) (buffer_after (back_of d used k) d used (version_in (take used d) k)) d
