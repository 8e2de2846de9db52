-- The numbers of the refusals. Assumes nothing: these are definitions.
use Rattle.std.specs.Prelude.{ℕ}
use Rattle.refusal.specs.declared.Refusal.{Refusal}

abbrev pub number_of : Refusal → ℕ
number_of Refusal.NotFinite = 1
number_of Refusal.MuOutOfRange = 2
number_of Refusal.PositionOutOfRange = 3
number_of Refusal.VelocityOutOfRange = 4
number_of Refusal.TimeOutOfRange = 5
number_of Refusal.DerivedOutOfRange = 6
number_of Refusal.TooLong = 7
number_of Refusal.TooShort = 8
number_of Refusal.ResultOutOfRange = 9
number_of Refusal.AngleTooSmall = 10
number_of Refusal.CutShort = 11
number_of Refusal.WrongLength = 12
number_of Refusal.UnknownKind = 13
number_of Refusal.NotAllowed = 14
number_of Refusal.NoRoom = 15
number_of Refusal.ElevationOutOfRange = 16
number_of Refusal.NotUnit = 17
number_of Refusal.NoCrossing = 18
number_of Refusal.StraightFall = 19
number_of Refusal.NotSet = 20
number_of Refusal.TwoBodies = 21
number_of Refusal.SettingOutOfRange = 22
number_of Refusal.NoVersion = 23
number_of Refusal.NoVersionLeft = 24
number_of Refusal.TooSoon = 25
number_of Refusal.NoOrbit = 26
number_of Refusal.NoSpeed = 27
number_of Refusal.TooLow = 28
number_of Refusal.NotFinished = 29
number_of Refusal.NoSettings = 30
