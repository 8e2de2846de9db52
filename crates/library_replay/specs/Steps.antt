-- The step of a replay as a number and a case: the two vehicles are read from the lent arrays, and put there again. Assumes
-- nothing: these are definitions.
use Rattle.refusal.specs.declared.Refusal.{Refusal}
use Rattle.std.specs.Prelude.{ℕ, Bool, cond, ◌&&◌, ◌||◌, List, [], ◌∷◌, leb, ltb, eqb, length, ℤ, Float}
use Rattle.flight.specs.declared.Mu.{Mu}
use Rattle.replay.specs.declared.Replay.{Replay}
use Rattle.replay.specs.declared.Answer.TheVariants as A
use Rattle.replay.specs.declared.Stepped.{Stepped}
use Rattle.replay.specs.Replay.{Answer, step_of}
use Rattle.library_records.specs.Records.{count_from, record_from}
use Rattle.lent.specs.Given.{Told, answer, refused, room_for}
use Rattle.held_replay.specs.Held.{replay_from, held_wholes, held_numbers, held_wrong}

-- ---- a step: a state is set, case 0; a burn is done, case 1; a mark is off by so much, case 2, the number behind the states

unfoldable pub answered_told : Answer → Replay → Told
answered_told A.Set p = answer (held_numbers p []) (held_wholes 0 p)
answered_told A.Done p = answer (held_numbers p []) (held_wholes 1 p)
answered_told (A.Off x) p = answer (held_numbers p (x ∷ [])) (held_wholes 2 p)
answered_told (A.Refused n) p = refused n

abbrev pub stepped_told : Stepped → Told
stepped_told s = answered_told s.answer s.replay

-- a record's vehicle is over 1, or a state's body
unfoldable pub record_wrong : ℕ → ℕ → ℕ → Bool
record_wrong k v b = ltb 1 v || (eqb k 1 && ltb 1 b)

-- 13 for a kind that is none of the three, then 15 for too few numbers, then 14 for what is wrong in the record or is held
unfoldable pub step_told : Mu → ℕ → ℕ → ℕ → ℤ → List Float → List Float → List ℕ → Told
step_told mu k v b t xs d w =
    cond (leb 1 k && leb k 3)
    (room_for (leb (count_from k) (length xs))
    (cond (record_wrong k v b || held_wrong w) (refused Refusal.NotAllowed) (stepped_told (step_of mu (replay_from d w) (record_from k v b t xs)))))
    (refused Refusal.UnknownKind)

abbrev pub step_in : Mu → ℕ → ℕ → ℕ → ℤ → List Float → List Float → List ℕ → Told
step_in mu k v b t xs d w = room_for (leb 13 (length d) && leb 7 (length w)) (step_told mu k v b t xs d w)
