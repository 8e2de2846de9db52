-- A session read whole, and a reader that takes it in parts. Assumes nothing: these are definitions.
use Rattle.std.specs.Prelude.{ℕ, zero, suc, ◌+◌, ◌-◌, ◌^◌, List, [], ◌∷◌, ◌++◌, Bool, false, cond, not, ◌&&◌, length, take, drop, ltb, eqb}
use Rattle.refusal.specs.Refusals.{number_of}
use Rattle.session.specs.declared.record.Record.{Record}
use Rattle.session.specs.declared.record.Decoded.{Decoded}
use Rattle.session.specs.declared.record.Decoded.TheVariants as D
use Rattle.session.specs.declared.Place.{Place}
use Rattle.session.specs.declared.Reading.{Reading}
use Rattle.session.specs.declared.Reading.TheVariants as A
use Rattle.session.specs.Limits.{offset_allowed}
use Rattle.session.specs.Offset.{decode_at}
use Rattle.session.specs.Read.{start}
use Rattle.stream.specs.declared.Standing.{Standing}
use Rattle.stream.specs.declared.Standing.TheVariants.{Open, Refused, Ended}
use Rattle.stream.specs.declared.Step.{Step}
use Rattle.stream.specs.declared.Step.TheVariants as S

-- how reading ends: with no byte left, or with a refusal's number and its place from the start of the session
pub data Ending : Type 0 where
  ended : Ending
  refused : ℕ → ℕ → Ending

-- what is read of a session, in its order: the records, each with the place and the local offset behind it, and the
-- offset's record; and how it ends
pub record Run : Type 0 where
  pub readings : List Reading
  pub ending : Ending

abbrev pub stop : Ending → Run
stop e = record { readings = []; ending = e }

abbrev pub with_reading : Reading → Run → Run
with_reading a x = record { readings = a ∷ x.readings; ending = x.ending }

abbrev pub joined : List Reading → Run → Run
joined xs x = record { readings = xs ++ x.readings; ending = x.ending }

-- no byte left is the end; else the number at the place where the record starts
abbrev pub ending_of : List ℕ → ℕ → ℕ → Ending
ending_of [] n at = ended
ending_of (b ∷ s) n at = refused n at

-- the place behind a record of n bytes, where the same offset holds
abbrev pub past : Place → ℕ → Place
past p n = record { at = p.at + n; offset = p.offset }

-- what stands at a place, of which s are the bytes from there on: the first record of the session is that at byte 0
abbrev pub found_at : Place → List ℕ → Decoded
found_at p s = decode_at (eqb p.at 0) s

-- Reading whole: s are the bytes from place p on, d is what is decoded at their front. The first number only lets the
-- definition end: see `enough`.
unfoldable pub run_in : ℕ → Decoded → Place → List ℕ → Run
run_in zero d p s = stop ended
run_in (suc f) (D.Whole r n) p s =
    with_reading (A.Record r (past p n)) (run_in f (found_at (past p n) (drop n s)) (past p n) (drop n s))
run_in (suc f) (D.Offset z) p s =
    let q : Place = record { at = 8; offset = z } in with_reading (A.Offset q) (run_in f (found_at q (drop 8 s)) q (drop 8 s))
run_in (suc f) (D.Refused n) p s = stop (ending_of s (number_of n) p.at)

abbrev pub whole_from : Place → List ℕ → Run
whole_from p s = run_in (suc (length s)) (found_at p s) p s

-- the session's bytes read whole, however many they are
abbrev pub whole_run : List ℕ → Run
whole_run s = whole_from start s

-- A reader of parts: it goes on, with the place of the unfinished record and the bytes it has of it, or it has stopped.
pub data Reader : Type 0 where
  reading : Place → List ℕ → Reader
  stopped : Ending → Reader

-- What it makes of a part, one at a time: a record or the offset's record, the place behind it, where it goes on with
-- nothing kept, and how many bytes of the part it used; or the reader behind the part.
pub data Move : Type 0 where
  got : Record → Place → ℕ → Move
  set : Place → ℕ → Move
  none : Reader → Move

abbrev pub most_bytes : ℕ
most_bytes = 2 ^ 63 - 1

-- the bytes that are decoded: those that are kept, and as many of the part as make 62
abbrev pub seen : List ℕ → List ℕ → List ℕ
seen kept rest = kept ++ take (62 - length kept) rest

-- 11 waits for more bytes; each other refusal is certain
abbrev pub move_for : Decoded → Place → List ℕ → List ℕ → Move
move_for (D.Whole r n) p kept rest = got r (past p n) (n - length kept)
move_for (D.Offset z) p kept rest = set (record { at = 8; offset = z }) (8 - length kept)
move_for (D.Refused n) p kept rest = none (cond (eqb (number_of n) 11) (reading p (kept ++ rest)) (stopped (refused (number_of n) p.at)))

-- 15 ahead of all but a repeated answer
abbrev pub move_of : Reader → List ℕ → Move
move_of (reading p kept) rest =
    cond (ltb most_bytes (p.at + length kept + length rest)) (none (stopped (refused 15 p.at)))
    (move_for (found_at p (seen kept rest)) p kept rest)
move_of (stopped e) rest = none (stopped e)

-- All that a reader makes of a part: what it reads, and the reader behind it. The first number only lets the definition
-- end: a record uses a byte of the part at least.
pub record Fed : Type 0 where
  pub readings : List Reading
  pub reader : Reader

abbrev fed : Reading → Fed → Fed
fed a y = record { readings = a ∷ y.readings; reader = y.reader }

unfoldable pub feed_in : ℕ → Move → List ℕ → Fed
feed_in zero (got r q n) rest = record { readings = []; reader = reading q [] }
feed_in zero (set q n) rest = record { readings = []; reader = reading q [] }
feed_in zero (none x) rest = record { readings = []; reader = x }
feed_in (suc f) (got r q n) rest = fed (A.Record r q) (feed_in f (move_of (reading q []) (drop n rest)) (drop n rest))
feed_in (suc f) (set q n) rest = fed (A.Offset q) (feed_in f (move_of (reading q []) (drop n rest)) (drop n rest))
feed_in (suc f) (none x) rest = record { readings = []; reader = x }

abbrev pub feed_of : Reader → List ℕ → Fed
feed_of x part = feed_in (suc (length part)) (move_of x part) part

-- an end call: an unfinished record is 11
abbrev pub end_of : Reader → Ending
end_of (reading p kept) = ending_of kept 11 p.at
end_of (stopped e) = e

-- the parts one after another, and an end call
unfoldable pub parts_of : Reader → List (List ℕ) → Run
parts_of x [] = stop (end_of x)
parts_of x (p ∷ ps) = joined (feed_of x p).readings (parts_of (feed_of x p).reader ps)

-- The reader as code has it: the kept bytes are the front of a room.
abbrev pub standing_of : Reader → Standing
standing_of (reading p kept) = Open p (length kept)
standing_of (stopped ended) = Ended
standing_of (stopped (refused n at)) = Refused n at

-- a move as a step of code, which counts from the start of the part
abbrev pub step_in : ℕ → Move → Step
step_in from (got r q n) = S.Record r q (from + n)
step_in from (set q n) = S.Offset q (from + n)
step_in from (none x) = S.Stopped (standing_of x)

-- a record that is cut short
abbrev pub is_cut : Decoded → Bool
is_cut (D.Whole r n) = false
is_cut (D.Offset z) = false
is_cut (D.Refused n) = eqb (number_of n) 11

-- what is kept is the front of an unfinished record, and the offset is allowed: no reader stands anywhere else
abbrev pub is_sound : Place → List ℕ → Bool
is_sound p kept = offset_allowed p.offset && is_cut (found_at p kept)

-- x put into d behind k bytes
abbrev pub put : ℕ → List ℕ → List ℕ → List ℕ
put k x d = take k d ++ (x ++ drop (k + length x) d)

-- a step behind all tests: the answer, and the room, in which the part's bytes stand behind those that were kept
abbrev pub step_on : Place → ℕ → List ℕ → List ℕ → ℕ → Step
step_on p k d part from =
    step_in from (move_for (found_at p (seen (take k d) (drop from part))) p (take k d) (drop from part))

abbrev pub room_on : ℕ → List ℕ → List ℕ → ℕ → List ℕ
room_on k d part from = put k (take (62 - k) (drop from part)) d

-- the tests of an open reader in their order: a count over its limit, a room under 62 bytes, a place or kept bytes that
-- no reader has
abbrev pub opened : {X : Type 0} → Place → ℕ → List ℕ → List ℕ → ℕ → X → X → X → X
opened p k d part from x y z =
    cond (ltb most_bytes (p.at + k + length (drop from part))) x
    (cond (ltb (length d) 62) x (cond (not (is_sound p (take k d))) y z))

abbrev pub step_open : Place → ℕ → List ℕ → List ℕ → ℕ → Step
step_open p k d part from =
    opened p k d part from (S.Stopped (Refused 15 p.at)) (S.Stopped (Refused 14 p.at)) (step_on p k d part from)

abbrev pub room_open : Place → ℕ → List ℕ → List ℕ → ℕ → List ℕ
room_open p k d part from = opened p k d part from d d (room_on k d part from)

-- One step of code from a room d: the answer, and the room after it. A reader that has stopped gives its answer again.
abbrev pub step_of : Standing → List ℕ → List ℕ → ℕ → Step
step_of (Open p k) d part from = step_open p k d part from
step_of (Refused n at) d part from = S.Stopped (Refused n at)
step_of Ended d part from = S.Stopped Ended

abbrev pub room_of : Standing → List ℕ → List ℕ → ℕ → List ℕ
room_of (Open p k) d part from = room_open p k d part from
room_of (Refused n at) d part from = d
room_of Ended d part from = d

-- An end call of code.
abbrev pub finish_of : Standing → Standing
finish_of (Open p k) = cond (eqb k 0) Ended (Refused 11 p.at)
finish_of (Refused n at) = Refused n at
finish_of Ended = Ended
