-- No two refusals have one number, and none has 0. Assumes nothing.
use Rattle.std.specs.Prelude.{◌≡◌, ℕ, ◌<◌, List, [], ◌∷◌}
use Rattle.std.proofs.Common.{refl, sym, ap, ◌∙◌, get_or, arith}
use Rattle.refusal.specs.declared.Refusal.{Refusal}
use Rattle.refusal.specs.Refusals.{number_of}

-- the refusals in the order of their numbers
abbrev refusals : List Refusal
refusals =
    Refusal.NotFinite ∷ Refusal.MuOutOfRange ∷ Refusal.PositionOutOfRange ∷ Refusal.VelocityOutOfRange ∷ Refusal.TimeOutOfRange
    ∷ Refusal.DerivedOutOfRange ∷ Refusal.TooLong ∷ Refusal.TooShort ∷ Refusal.ResultOutOfRange ∷ Refusal.AngleTooSmall
    ∷ Refusal.CutShort ∷ Refusal.WrongLength ∷ Refusal.UnknownKind ∷ Refusal.NotAllowed ∷ Refusal.NoRoom
    ∷ Refusal.ElevationOutOfRange ∷ Refusal.NotUnit ∷ Refusal.NoCrossing ∷ Refusal.StraightFall ∷ Refusal.NotSet
    ∷ Refusal.TwoBodies ∷ Refusal.SettingOutOfRange ∷ Refusal.NoVersion ∷ Refusal.NoVersionLeft ∷ Refusal.TooSoon
    ∷ Refusal.NoOrbit ∷ Refusal.NoSpeed ∷ Refusal.TooLow ∷ Refusal.NotFinished ∷ Refusal.NoSettings ∷ []

abbrev of_number : ℕ → Refusal
of_number n = get_or (Refusal.NotFinite ∷ refusals) n Refusal.NotFinite

back : (r : Refusal) → of_number (number_of r) ≡ r
back Refusal.NotFinite = refl
back Refusal.MuOutOfRange = refl
back Refusal.PositionOutOfRange = refl
back Refusal.VelocityOutOfRange = refl
back Refusal.TimeOutOfRange = refl
back Refusal.DerivedOutOfRange = refl
back Refusal.TooLong = refl
back Refusal.TooShort = refl
back Refusal.ResultOutOfRange = refl
back Refusal.AngleTooSmall = refl
back Refusal.CutShort = refl
back Refusal.WrongLength = refl
back Refusal.UnknownKind = refl
back Refusal.NotAllowed = refl
back Refusal.NoRoom = refl
back Refusal.ElevationOutOfRange = refl
back Refusal.NotUnit = refl
back Refusal.NoCrossing = refl
back Refusal.StraightFall = refl
back Refusal.NotSet = refl
back Refusal.TwoBodies = refl
back Refusal.SettingOutOfRange = refl
back Refusal.NoVersion = refl
back Refusal.NoVersionLeft = refl
back Refusal.TooSoon = refl
back Refusal.NoOrbit = refl
back Refusal.NoSpeed = refl
back Refusal.TooLow = refl
back Refusal.NotFinished = refl
back Refusal.NoSettings = refl

pub same_refusal : (r s : Refusal) → number_of r ≡ number_of s → r ≡ s
same_refusal r s e = sym (back r) ∙ ap of_number e ∙ back s

pub some_number : (r : Refusal) → 0 < number_of r
some_number Refusal.NotFinite = omega arith
some_number Refusal.MuOutOfRange = omega arith
some_number Refusal.PositionOutOfRange = omega arith
some_number Refusal.VelocityOutOfRange = omega arith
some_number Refusal.TimeOutOfRange = omega arith
some_number Refusal.DerivedOutOfRange = omega arith
some_number Refusal.TooLong = omega arith
some_number Refusal.TooShort = omega arith
some_number Refusal.ResultOutOfRange = omega arith
some_number Refusal.AngleTooSmall = omega arith
some_number Refusal.CutShort = omega arith
some_number Refusal.WrongLength = omega arith
some_number Refusal.UnknownKind = omega arith
some_number Refusal.NotAllowed = omega arith
some_number Refusal.NoRoom = omega arith
some_number Refusal.ElevationOutOfRange = omega arith
some_number Refusal.NotUnit = omega arith
some_number Refusal.NoCrossing = omega arith
some_number Refusal.StraightFall = omega arith
some_number Refusal.NotSet = omega arith
some_number Refusal.TwoBodies = omega arith
some_number Refusal.SettingOutOfRange = omega arith
some_number Refusal.NoVersion = omega arith
some_number Refusal.NoVersionLeft = omega arith
some_number Refusal.TooSoon = omega arith
some_number Refusal.NoOrbit = omega arith
some_number Refusal.NoSpeed = omega arith
some_number Refusal.TooLow = omega arith
some_number Refusal.NotFinished = omega arith
some_number Refusal.NoSettings = omega arith
