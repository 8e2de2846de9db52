-- The transfer velocity under a limit on the count, gone on with, and graded by a version, as a number and a case: found is
-- case 0, not finished is case 1. Assumes nothing: these are definitions.
use Rattle.refusal.specs.declared.Refusal.{Refusal}
use Rattle.std.specs.Prelude.{ℕ, Bool, cond, not, ◌&&◌, ◌||◌, List, ◌∷◌, leb, ltb, length, Float}
use Rattle.solve.specs.declared.Transferred.TheVariants as Tr
use Rattle.solve.specs.Answers.{Transferred, transfer_velocity_to}
use Rattle.graded.specs.Graded.{graded_transfer}
use Rattle.cases.specs.Cases.{way_from, normal_size, velocity_numbers, velocity_wholes, beginning_from, run_short}
use Rattle.library_advances.specs.Advances.{stopped_told, judged_for}
use Rattle.lent.specs.Given.{Told, answer, refused, room_for, vector_in}

-- the velocity; too long is 7, too short 8

unfoldable pub transferred_within_told : Transferred → Told
transferred_within_told (Tr.Found v x) = answer (velocity_numbers v x) (0 ∷ velocity_wholes x)
transferred_within_told Tr.TooLong = refused Refusal.TooLong
transferred_within_told Tr.TooShort = refused Refusal.TooShort
transferred_within_told (Tr.NotFinished b) = stopped_told b
transferred_within_told (Tr.Refused n) = refused n

-- 14 also for a way that is none of the three
unfoldable pub way_for : ℕ → Told → Told
way_for k t = cond (leb k 2) t (refused Refusal.NotAllowed)

-- two positions, and the normal where it is asked for
unfoldable pub ends_short : List Float → List Float → ℕ → List Float → Bool
ends_short a b k normal = ltb (length a) 3 || (ltb (length b) 3 || ltb (length normal) (normal_size k))

-- 15, then 14, then the solve's own
abbrev pub transfer_for : List Float → List Float → ℕ → List Float → List Float → List ℕ → List Float → List ℕ → Transferred → Told
transfer_for a b k normal times from d w r =
    room_for
    (not (ends_short a b k normal) && not (run_short from times) && leb 5 (length d) && leb 6 (length w))
    (way_for k (judged_for from (transferred_within_told r)))

abbrev pub transfer_within_in : Float → List Float → List Float → ℕ → List Float → Float → List Float → List ℕ → ℕ → List Float → List ℕ → Told
transfer_within_in mu a b k normal t times from limit d w =
    transfer_for a b k normal times from d w
    (transfer_velocity_to mu (vector_in a) (vector_in b) (way_from k normal) t limit (beginning_from from times))

-- by a version of the settings
abbrev pub transfer_by_in : List ℕ → ℕ → Float → List Float → List Float → ℕ → List Float → Float → List Float → List ℕ → ℕ → List Float → List ℕ → Told
transfer_by_in used version mu a b k normal t times from limit d w =
    transfer_for a b k normal times from d w
    (graded_transfer used version mu (vector_in a) (vector_in b) (way_from k normal) t limit (beginning_from from times))
