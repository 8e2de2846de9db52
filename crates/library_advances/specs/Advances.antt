-- The advance under a limit on the count, gone on with, and graded by a version, as a number and a case: found is case 0, not
-- finished is case 1. Assumes nothing: these are definitions.
use Rattle.refusal.specs.declared.Refusal.{Refusal}
use Rattle.std.specs.Prelude.{ℕ, cond, not, ◌&&◌, List, ◌∷◌, leb, length, Float}
use Rattle.iterator.specs.declared.Bracket.{Bracket}
use Rattle.solve.specs.declared.Advanced.TheVariants as Ad
use Rattle.solve.specs.Answers.{Advanced, advance_to}
use Rattle.graded.specs.Graded.{graded_advance}
use Rattle.cases.specs.Cases.{orbit_numbers, orbit_wholes}
use Rattle.cases.specs.Cases.{stopped_numbers, stopped_wholes, beginning_from, run_short, run_misjudged}
use Rattle.lent.specs.Given.{Told, answer, refused, room_for, state_in}

-- a run that a limit stopped
abbrev pub stopped_told : Bracket → Told
stopped_told b = answer (stopped_numbers b) (1 ∷ stopped_wholes b)

-- 14 for a judgement of the run to go on from that is none of the four
unfoldable pub judged_for : List ℕ → Told → Told
judged_for from t = cond (run_misjudged from) (refused Refusal.NotAllowed) t

-- ---- an advance: the orbit; too long is 7

unfoldable pub advanced_within_told : Advanced → Told
advanced_within_told (Ad.Found s x w) = answer (orbit_numbers s x) (0 ∷ orbit_wholes x w)
advanced_within_told Ad.TooLong = refused Refusal.TooLong
advanced_within_told (Ad.NotFinished b) = stopped_told b
advanced_within_told (Ad.Refused n) = refused n

-- 15, then 14, then the solve's own
abbrev pub advance_for : List Float → List Float → List ℕ → List Float → List ℕ → Advanced → Told
advance_for s times from d w a =
    room_for (leb 6 (length s) && not (run_short from times) && leb 8 (length d) && leb 6 (length w)) (judged_for from (advanced_within_told a))

abbrev pub advance_within_in : Float → List Float → Float → List Float → List ℕ → ℕ → List Float → List ℕ → Told
advance_within_in mu s t times from limit d w = advance_for s times from d w (advance_to mu (state_in s) t limit (beginning_from from times))

-- by version k of the settings
abbrev pub advance_by_in : List ℕ → ℕ → Float → List Float → Float → List Float → List ℕ → ℕ → List Float → List ℕ → Told
advance_by_in used k mu s t times from limit d w =
    advance_for s times from d w (graded_advance used k mu (state_in s) t limit (beginning_from from times))
