-- An open reader stops with the number of a refusal, so that the number returned is the one that it holds. Assumes nothing.
use Prim.Native.Nat.{ℕ, ◌+◌}
use mathlib.Core.Path.{◌≡◌, refl, sym, ap, ◌∙◌}
use mathlib.Core.Bool.{Bool, true, false, cond, not}
use mathlib.Core.List.{List, ◌++◌}
use lib.Dec.{ltb, eqb}
use lib.ListN.{length, take, drop}
use lib.Ieee.{Float}
use Rattle.refusal.specs.declared.Refusal.{Refusal}
use Rattle.refusal.specs.Refusals.{number_of}
use Rattle.session.specs.declared.record.Decoded.{Decoded}
use Rattle.session.specs.declared.record.Decoded.TheVariants as D
use Rattle.session.specs.declared.Place.{Place}
use Rattle.stream.specs.declared.Standing.TheVariants.{Open, Refused}
use Rattle.stream.specs.declared.Step.{Step}
use Rattle.stream.specs.declared.Step.TheVariants as S
use Rattle.stream.specs.Stream.{refused, reading, stopped, none, most_bytes, found_at, seen, move_for, step_in, is_sound, step_on, step_of}
use Rattle.lent.specs.Given.{told_number, numbers_after, wholes_after, Given}
use Rattle.library_stream.specs.Parts.{refusal_of, standing_told, step_told, step_number}

pub same_number : (r : Refusal) → number_of (refusal_of (number_of r)) ≡ number_of r
same_number Refusal.NotFinite = refl
same_number Refusal.MuOutOfRange = refl
same_number Refusal.PositionOutOfRange = refl
same_number Refusal.VelocityOutOfRange = refl
same_number Refusal.TimeOutOfRange = refl
same_number Refusal.DerivedOutOfRange = refl
same_number Refusal.TooLong = refl
same_number Refusal.TooShort = refl
same_number Refusal.ResultOutOfRange = refl
same_number Refusal.AngleTooSmall = refl
same_number Refusal.CutShort = refl
same_number Refusal.WrongLength = refl
same_number Refusal.UnknownKind = refl
same_number Refusal.NotAllowed = refl
same_number Refusal.NoRoom = refl
same_number Refusal.ElevationOutOfRange = refl
same_number Refusal.NotUnit = refl
same_number Refusal.NoCrossing = refl
same_number Refusal.StraightFall = refl
same_number Refusal.NotSet = refl
same_number Refusal.TwoBodies = refl
same_number Refusal.SettingOutOfRange = refl
same_number Refusal.NoVersion = refl
same_number Refusal.NoVersionLeft = refl
same_number Refusal.TooSoon = refl
same_number Refusal.NoOrbit = refl
same_number Refusal.NoSpeed = refl
same_number Refusal.TooLow = refl
same_number Refusal.NotFinished = refl
same_number Refusal.NoSettings = refl

-- the number of what a step is told as is its own
abbrev pub Numbered : Step → Type 0
Numbered a = told_number (step_told a) ≡ step_number a

of-refusal : (r : Refusal) (at : ℕ) → Numbered (S.Stopped (Refused (number_of r) at))
unfolding step_told standing_told told_number
of-refusal r at = same_number r

-- 11 waits for more bytes, which is an answer
of-move : (x : Decoded) (p : Place) (kept rest : List ℕ) (from : ℕ) → Numbered (step_in from (move_for x p kept rest))
unfolding step_told standing_told told_number
of-move (D.Whole r n) p kept rest from = refl
of-move (D.Offset z) p kept rest from = refl
of-move (D.Refused r) p kept rest from = go (eqb (number_of r) 11)
  where
    go : (b : Bool) → Numbered (step_in from (none (cond b (reading p (kept ++ rest)) (stopped (refused (number_of r) p.at)))))
    go true = refl
    go false = of-refusal r p.at

pub told-number : (p : Place) (k : ℕ) (room part : List ℕ) (from : ℕ) → Numbered (step_of (Open p k) room part from)
told-number p k room part from =
    go (ltb most_bytes (p.at + k + length (drop from part))) (ltb (length room) 62) (not (is_sound p (take k room)))
  where
    go : (a b c : Bool)
        → Numbered (cond a (S.Stopped (Refused 15 p.at)) (cond b (S.Stopped (Refused 15 p.at)) (cond c (S.Stopped (Refused 14 p.at)) (step_on p k room part from))))
    go true b c = of-refusal Refusal.NoRoom p.at
    go false true c = of-refusal Refusal.NoRoom p.at
    go false false true = of-refusal Refusal.NotAllowed p.at
    go false false false =
        let s = seen (take k room) (drop from part) in
        of-move (found_at p s) p (take k room) (drop from part) from

-- a step of an open reader that is told with its own number is given
pub step-given : (p : Place) (k : ℕ) (room part : List ℕ) (from : ℕ) {a : Step} {r : ℕ} {w v : List ℕ} {d e : List Float} → a ≡ step_of (Open p k) room part from
    → r ≡ step_number a → e ≡ numbers_after (step_told a) d → v ≡ wholes_after (step_told a) w
    → Given (step_told (step_of (Open p k) room part from)) d w e v r
step-given p k room part from {w = w} {d = d} i x y z =
    record {
      number = x ∙ ap step_number i ∙ sym (told-number p k room part from);
      numbers = y ∙ ap (λ (b : Step). numbers_after (step_told b) d) i;
      wholes = z ∙ ap (λ (b : Step). wholes_after (step_told b) w) i;
    }
