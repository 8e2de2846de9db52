-- The trial and the solves as a number and a case. A whole number that may be below 0 is handed out as its 64 bits.
-- Assumes nothing: these are definitions.
use Rattle.refusal.specs.declared.Refusal.{Refusal}
use Rattle.std.specs.Prelude.{ℕ, cond, ◌&&◌, List, [], ◌∷◌, leb, length, ℤ, Float}
use Rattle.field.specs.Bytes.{bits_of}
use Rattle.iterator.specs.declared.Tried.TheVariants as P
use Rattle.iterator.specs.Single.{Tried, single_trial_of}
use Rattle.solve.specs.declared.Advanced.TheVariants as Ad
use Rattle.solve.specs.declared.Transferred.TheVariants as Tr
use Rattle.solve.specs.Answers.{Advanced, Transferred, advance_of, transfer_velocity_of}
use Rattle.cases.specs.Cases.{judgement_from, way_from, normal_size, orbit_numbers, orbit_wholes, velocity_numbers, velocity_wholes}
use Rattle.lent.specs.Given.{Told, answer, refused, room_for, vector_in, state_in}

-- ---- a trial: none left is case 0; a point is case 1, with its place

unfoldable pub tried_told : Tried → Told
tried_told (P.Point n) = answer [] (1 ∷ bits_of n ∷ [])
tried_told P.NoneLeft = answer [] (0 ∷ [])
tried_told (P.Refused n) = refused n

-- 14 for a judgement that is none of the four
unfoldable pub trial_told : Float → ℤ → ℤ → ℕ → Float → ℕ → Float → ℕ → Told
trial_told asked lo hi j s k t n =
    cond (leb j 3 && leb k 3) (tried_told (single_trial_of asked lo hi (judgement_from j s) (judgement_from k t) n)) (refused Refusal.NotAllowed)

abbrev pub trial_in : Float → ℤ → ℤ → ℕ → Float → ℕ → Float → ℕ → List ℕ → Told
trial_in asked lo hi j s k t n w = room_for (leb 2 (length w)) (trial_told asked lo hi j s k t n)

-- ---- an advance: the orbit; too long is 7, not finished 29

unfoldable pub advanced_told : Advanced → Told
advanced_told (Ad.Found s x w) = answer (orbit_numbers s x) (orbit_wholes x w)
advanced_told Ad.TooLong = refused Refusal.TooLong
advanced_told (Ad.NotFinished b) = refused Refusal.NotFinished
advanced_told (Ad.Refused n) = refused n

abbrev pub advance_in : Float → List Float → Float → List Float → List ℕ → Told
advance_in mu s t d w = room_for (leb 6 (length s) && leb 8 (length d) && leb 4 (length w)) (advanced_told (advance_of mu (state_in s) t))

-- ---- a transfer velocity: too long is 7, too short 8, not finished 29

unfoldable pub transferred_told : Transferred → Told
transferred_told (Tr.Found v x) = answer (velocity_numbers v x) (velocity_wholes x)
transferred_told Tr.TooLong = refused Refusal.TooLong
transferred_told Tr.TooShort = refused Refusal.TooShort
transferred_told (Tr.NotFinished b) = refused Refusal.NotFinished
transferred_told (Tr.Refused n) = refused n

-- 14 for a way that is none of the three
unfoldable pub transfer_told : Float → List Float → List Float → ℕ → List Float → Float → Told
transfer_told mu a b k normal t =
    cond (leb k 2) (transferred_told (transfer_velocity_of mu (vector_in a) (vector_in b) (way_from k normal) t)) (refused Refusal.NotAllowed)

abbrev pub transfer_in : Float → List Float → List Float → ℕ → List Float → Float → List Float → List ℕ → Told
transfer_in mu a b k normal t d w =
    room_for
    (leb 3 (length a) && leb 3 (length b) && leb (normal_size k) (length normal) && leb 5 (length d) && leb 3 (length w))
    (transfer_told mu a b k normal t)
