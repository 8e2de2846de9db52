-- The document's burn in three parts, one of them empty; its front alone; an unknown kind behind it; and an offset's record
-- that is cut in its middle. Assumes nothing.
use Prim.Native.Nat.{ℕ}
use mathlib.Core.Path.{◌≡◌, refl}
use mathlib.Core.List.{List, [], ◌∷◌, ◌++◌}
use lib.ListN.{length, take, drop}
use lib.IntN.{pos}
use lib.Ieee.{of_bits}
use Rattle.session.specs.declared.Reading.TheVariants as A
use Rattle.session.specs.Layout.{numbers_from, all_finite}
use Rattle.session.specs.Read.{start}
use Rattle.session.proofs.Examples.{burn}
use Rattle.stream.specs.Stream.{ended, refused, run_in, whole_run, reading, feed_in, parts_of}

pub burn-whole : (length (whole_run burn).readings ≡ 1) × ((whole_run burn).ending ≡ ended)
unfolding run_in all_finite numbers_from of_bits
burn-whole = (refl, refl)

pub burn-parts : parts_of (reading start []) (take 3 burn ∷ [] ∷ drop 3 burn ∷ []) ≡ whole_run burn
unfolding run_in parts_of feed_in all_finite numbers_from of_bits
burn-parts = refl

pub burn-cut : (parts_of (reading start []) (burn ∷ take 3 burn ∷ [])).ending ≡ refused 11 38
unfolding parts_of feed_in all_finite numbers_from of_bits
burn-cut = refl

pub burn-unknown : (parts_of (reading start []) (take 37 burn ∷ (drop 37 burn ++ (38 ∷ [])) ∷ (0 ∷ 9 ∷ []) ∷ (0 ∷ []) ∷ [])).ending ≡ refused 13 38
unfolding parts_of feed_in all_finite numbers_from of_bits
burn-unknown = refl

-- an offset of 60 minutes, in two parts
pub sixty : List ℕ
sixty = 8 ∷ 0 ∷ 4 ∷ 0 ∷ 60 ∷ 0 ∷ 0 ∷ 0 ∷ []

pub offset-parts : (parts_of (reading start []) (take 5 sixty ∷ drop 5 sixty ∷ [])).readings ≡ A.Offset (record { at = 8; offset = pos 60 }) ∷ []
unfolding parts_of feed_in sixty
offset-parts = refl

-- the same record again is not the first one
pub offset-twice : (parts_of (reading start []) (sixty ∷ take 7 sixty ∷ drop 7 sixty ∷ [])).ending ≡ refused 14 8
unfolding parts_of feed_in sixty
offset-twice = refl
