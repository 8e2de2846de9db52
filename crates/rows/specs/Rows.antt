-- Rows 1 to 5 of the refusal table, and the radius of row 22. Assumes nothing: these are definitions.
use Rattle.std.specs.Prelude.{List, [], ◌∷◌, ◌++◌, Float}
use Rattle.refusal.specs.declared.Refusal.{Refusal}
use Rattle.real.specs.F64.{two^, f0}
use Rattle.table.specs.declared.Name.{Name}
use Rattle.table.specs.declared.Name.TheVariants.{Mu, Position, Velocity, Time, Radius}
use Rattle.table.specs.declared.Part.TheVariants.{X, Y, Z, Length, Whole}
use Rattle.table.specs.declared.Limit.TheVariants.{Finite, AtLeast, Under, Over, SizeAtMost, SizeUnder}
use Rattle.table.specs.declared.Entry.{Entry as EntryOf}
use Rattle.table.specs.Tests.{Entry, entry}
use Rattle.vector.specs.declared.Vector.{Vector}
use Rattle.vector.specs.declared.State.{State}
use Rattle.vector.specs.Vectors.{position_of, velocity_of}

-- 1: an input number is infinite or not a number
abbrev pub finite_number : Name → Float → List Entry
finite_number name x = entry Refusal.NotFinite name Whole x Finite ∷ []

abbrev pub finite_vector : Name → Vector → List Entry
finite_vector name a = entry Refusal.NotFinite name X a.x Finite ∷ entry Refusal.NotFinite name Y a.y Finite ∷ entry Refusal.NotFinite name Z a.z Finite ∷ []

-- of mu and two vectors, in the order written
abbrev pub finite_inputs : Float → Name → Vector → Name → Vector → List Entry
finite_inputs mu first a second b = finite_number Mu mu ++ finite_vector first a ++ finite_vector second b

-- 2: mu is not in 2^28 ≤ mu < 2^36
abbrev pub mu_row : Float → List Entry
mu_row mu = entry Refusal.MuOutOfRange Mu Whole mu (AtLeast (two^ 28)) ∷ entry Refusal.MuOutOfRange Mu Whole mu (Under (two^ 36)) ∷ []

-- a position component is 2^29 or more in size
abbrev pub position_components : {R : Type 0} → R → Name → Vector → List (EntryOf R)
position_components refusal name r =
    entry refusal name X r.x (SizeUnder (two^ 29))
    ∷ entry refusal name Y r.y (SizeUnder (two^ 29))
    ∷ entry refusal name Z r.z (SizeUnder (two^ 29))
    ∷ []

-- 3: a position component is 2^29 or more in size, or the length is not in 2^18 ≤ r < 2^29
abbrev pub position_row : Name → Vector → Float → List Entry
position_row name r length =
    position_components Refusal.PositionOutOfRange name r ++ (entry Refusal.PositionOutOfRange name Length length (AtLeast (two^ 18)) ∷ entry Refusal.PositionOutOfRange name Length length (Under (two^ 29)) ∷ [])

-- 4, and part of 9: a velocity component is over 2^7 in size
abbrev pub velocity_components : {R : Type 0} → R → Name → Vector → List (EntryOf R)
velocity_components refusal name v =
    entry refusal name X v.x (SizeAtMost (two^ 7))
    ∷ entry refusal name Y v.y (SizeAtMost (two^ 7))
    ∷ entry refusal name Z v.z (SizeAtMost (two^ 7))
    ∷ []

-- 2 to 4, of mu and a state whose position has this length
abbrev pub state_rows : Float → State → Float → List Entry
state_rows mu s length = mu_row mu ++ position_row Position (position_of s) length ++ velocity_components Refusal.VelocityOutOfRange Velocity (velocity_of s)

-- 5: time over 2^28 in size; for Lambert also time ≤ 0
abbrev pub time_row : Float → List Entry
time_row t = entry Refusal.TimeOutOfRange Time Whole t (SizeAtMost (two^ 28)) ∷ []

abbrev pub transfer_time_row : Float → List Entry
transfer_time_row t = time_row t ++ (entry Refusal.TimeOutOfRange Time Whole t (Over f0) ∷ [])

-- 22: a radius not over 0 and under 2^29
abbrev pub radius_row : Float → List Entry
radius_row radius = entry Refusal.SettingOutOfRange Radius Whole radius (Over f0) ∷ entry Refusal.SettingOutOfRange Radius Whole radius (Under (two^ 29)) ∷ []
