-- A session in parts, as a number and a case. Assumes nothing: these are definitions.
use Rattle.std.specs.Prelude.{ℕ, ◌-◌, cond, ◌&&◌, List, [], ◌∷◌, leb, length, get_or, Float}
use Rattle.refusal.specs.declared.Refusal.{Refusal}
use Rattle.field.specs.Bytes.{bits_of}
use Rattle.session.specs.declared.Place.{Place}
use Rattle.session.specs.Kinds.{kind_number}
use Rattle.session.specs.Layout.{kind_in, vehicle_in, byte_in, time_in, numbers_in}
use Rattle.stream.specs.declared.Standing.{Standing}
use Rattle.stream.specs.declared.Standing.TheVariants.{Open, Refused, Ended}
use Rattle.stream.specs.declared.Step.{Step}
use Rattle.stream.specs.declared.Step.TheVariants as P
use Rattle.stream.specs.Stream.{step_of, room_of}
use Rattle.lent.specs.Given.{Told, answer, refused, room_for}

-- the refusals in the order of their numbers, of which the first is 1
abbrev refusals : List Refusal
refusals =
    Refusal.NotFinite ∷ Refusal.MuOutOfRange ∷ Refusal.PositionOutOfRange ∷ Refusal.VelocityOutOfRange ∷ Refusal.TimeOutOfRange
    ∷ Refusal.DerivedOutOfRange ∷ Refusal.TooLong ∷ Refusal.TooShort ∷ Refusal.ResultOutOfRange ∷ Refusal.AngleTooSmall
    ∷ Refusal.CutShort ∷ Refusal.WrongLength ∷ Refusal.UnknownKind ∷ Refusal.NotAllowed ∷ Refusal.NoRoom
    ∷ Refusal.ElevationOutOfRange ∷ Refusal.NotUnit ∷ Refusal.NoCrossing ∷ Refusal.StraightFall ∷ Refusal.NotSet
    ∷ Refusal.TwoBodies ∷ Refusal.SettingOutOfRange ∷ Refusal.NoVersion ∷ Refusal.NoVersionLeft ∷ Refusal.TooSoon
    ∷ Refusal.NoOrbit ∷ Refusal.NoSpeed ∷ Refusal.TooLow ∷ Refusal.NotFinished ∷ Refusal.NoSettings ∷ []

-- the refusal of a number. An open reader stops with the number of a refusal only: see `told-number`.
abbrev pub refusal_of : ℕ → Refusal
refusal_of n = get_or refusals (n - 1) Refusal.NoSettings

-- a reader that waits for the next part is case 5: how many bytes are kept, and the place and the offset of their record
unfoldable pub standing_told : Standing → Told
standing_told (Open p k) = answer [] (5 ∷ k ∷ p.at ∷ bits_of p.offset ∷ [])
standing_told (Refused n at) = refused (refusal_of n)
standing_told Ended = answer [] (0 ∷ [])

-- else the kind, the place behind it in the part, and as in reading
unfoldable pub step_told : Step → Told
step_told (P.Record r p n) =
    answer (numbers_in r) (kind_number (kind_in r) ∷ n ∷ p.at ∷ bits_of p.offset ∷ vehicle_in r ∷ byte_in r ∷ bits_of (time_in r) ∷ [])
step_told (P.Offset p n) = answer [] (4 ∷ n ∷ p.at ∷ bits_of p.offset ∷ [])
step_told (P.Stopped s) = standing_told s

-- the number that is returned: 0 for an answer, and for a refusal the number that the reader holds
abbrev pub standing_number : Standing → ℕ
standing_number (Open p k) = 0
standing_number (Refused n at) = n
standing_number Ended = 0

abbrev pub step_number : Step → ℕ
step_number (P.Record r p n) = 0
step_number (P.Offset p n) = 0
step_number (P.Stopped s) = standing_number s

abbrev pub take_in : Place → ℕ → List ℕ → List ℕ → ℕ → List Float → List ℕ → Told
take_in p k room part from d w = room_for (leb 6 (length d) && leb 7 (length w)) (step_told (step_of (Open p k) room part from))

-- the room afterwards
abbrev pub room_after : Place → ℕ → List ℕ → List ℕ → ℕ → List Float → List ℕ → List ℕ
room_after p k room part from d w = cond (leb 6 (length d) && leb 7 (length w)) (room_of (Open p k) room part from) room
