-- The constant-height burn (source document 002, 5.4.2.3), step by step, with its refusals in their order.
-- Assumes nothing: these are definitions.
use Rattle.refusal.specs.declared.Refusal.{Refusal}
use Rattle.std.specs.Prelude.{ℕ, Bool, cond, ◌&&◌, ltb, eqb, ℤ, Float, Err, None, Ok, Option, Result, Some}
use Rattle.refusal.specs.Refusals.{number_of}
use Rattle.real.specs.F64.{◌⊖◌, ◌<ᶠ◌, ◌≤ᶠ◌, bits, f0}
use Rattle.vector.specs.declared.Vector.{Vector}
use Rattle.vector.specs.declared.State.{State}
use Rattle.vector.specs.Vectors.{position_of, velocity_of, state_of, length_of, difference_of}
use Rattle.table.specs.Tests.{all_meet}
use Rattle.rows.specs.Rows.{radius_row}
use Rattle.solve.specs.declared.Advanced.TheVariants as Ad
use Rattle.solve.specs.Answers.{Advanced, advance_of}
use Rattle.theta.specs.declared.TransferTime.TheVariants as Th
use Rattle.theta.specs.Theta.{TransferTime, theta_of}
use Rattle.apsides.specs.declared.Apsides.TheVariants as Ap
use Rattle.apsides.specs.Apsides.{Apsides, apsides_of}
use Rattle.elapsed.specs.Elapsed.{at_least, elapsed_of}
use Rattle.coelliptic.specs.declared.Angle.{Angle}
use Rattle.coelliptic.specs.declared.Passive.{Passive}
use Rattle.coelliptic.specs.declared.Speeds.{Speeds}
use Rattle.coelliptic.specs.Coelliptic.{angle_of, passive_of, axis_of, speeds_of, new_of}
use Rattle.burn.specs.declared.Centre.{Centre}
use Rattle.burn.specs.declared.Burn.{Burn}
use Rattle.burn.specs.declared.Burn.TheVariants.{Closed, Open}

-- ---- the advances

-- Kepler's state, or its number
unfoldable pub kept_of : Advanced → Result State Refusal
kept_of (Ad.Found s x w) = Ok s
kept_of Ad.TooLong = Err Refusal.TooLong
kept_of (Ad.NotFinished s) = Err Refusal.NotFinished
kept_of (Ad.Refused n) = Err n

unfoldable pub moved_of : Float → State → Float → Result State Refusal
moved_of mu s t = kept_of (advance_of mu s t)

-- 5 for an exact difference over 2^28 in size, then Kepler's
unfoldable pub moved_for : Float → State → Option Float → Result State Refusal
moved_for mu s (Some t) = moved_of mu s t
moved_for mu s None = Err Refusal.TimeOutOfRange

unfoldable pub at_time : Float → State → ℤ → ℤ → Result State Refusal
at_time mu s from to = moved_for mu s (elapsed_of from to)

-- 2: Time-Theta of the passive vehicle, then Kepler by that time: the point in line
unfoldable pub moved_by : Float → State → TransferTime → Result State Refusal
moved_by mu s (Th.Time t) = moved_of mu s t.time
moved_by mu s Th.TooLong = Err Refusal.TooLong
moved_by mu s Th.TooShort = Err Refusal.TooShort
moved_by mu s (Th.Refused n) = Err n

unfoldable pub in_line_of : Float → State → Angle → Result State Refusal
in_line_of mu s g = moved_by mu s (theta_of mu s g.sin g.cos)

-- ---- the burn

-- 6: how far over the surface the pericentre must lie: more than 157,420 m at the earth (0), 10,668 m at the moon (1)
unfoldable pub margin_of : ℕ → Float
margin_of body = cond (eqb body 0) (bits 0x4103_3760_0000_0000) (bits 0x40c4_d600_0000_0000)

unfoldable pub clear_of : Centre → Float → Bool
clear_of k near = margin_of k.body <ᶠ near ⊖ k.radius

-- 28 unless the pericentre is high enough
unfoldable pub cleared_of : Centre → Vector → Apsides → Result Burn Refusal
cleared_of k change (Ap.Closed near far) = cond (clear_of k near) (Ok (Closed change near far)) (Err Refusal.TooLow)
cleared_of k change (Ap.Open near) = cond (clear_of k near) (Ok (Open change near)) (Err Refusal.TooLow)
cleared_of k change (Ap.Refused n) = Err n

-- 5, 6: change = new − vA', and the apsides of A's position and the new velocity
unfoldable pub changed_of : Centre → State → Vector → Result Burn Refusal
changed_of k active new = cleared_of k (difference_of new (velocity_of active)) (apsides_of k.mu (state_of (position_of active) new))

-- 4: 27 unless the radicand is at least 0
unfoldable pub sped_of : Centre → State → Speeds → Result Burn Refusal
sped_of k active v = cond (f0 ≤ᶠ v.radicand) (changed_of k active (new_of active v)) (Err Refusal.NoSpeed)

-- 3: 26 unless α, aP and aA are over 0
abbrev pub bound : Passive → Float → Bool
bound p aA = f0 <ᶠ p.alpha && f0 <ᶠ p.a && f0 <ᶠ aA

unfoldable pub beside_of : Centre → State → Passive → Float → Float → Result Burn Refusal
beside_of k active p rA aA = cond (bound p aA) (sped_of k active (speeds_of k.mu p rA aA)) (Err Refusal.NoOrbit)

unfoldable pub coelliptic_of : Centre → State → Passive → Result Burn Refusal
coelliptic_of k active p =
    let rA = length_of (position_of active) in
    beside_of k active p rA (axis_of p rA)

-- from the point in line, from the passive vehicle at T2, and from the active one
unfoldable pub from_point : Centre → State → Result State Refusal → Result Burn Refusal
from_point k active (Ok c) = coelliptic_of k active (passive_of k.mu c)
from_point k active (Err n) = Err n

unfoldable pub from_passive : Centre → State → Result State Refusal → Result Burn Refusal
from_passive k active (Ok p) = from_point k active (in_line_of k.mu p (angle_of active p))
from_passive k active (Err n) = Err n

unfoldable pub from_active : Centre → Result State Refusal → Result State Refusal → Result Burn Refusal
from_active k (Ok a) passive = from_passive k a passive
from_active k (Err n) passive = Err n

-- 22: the radius is over 0 and under 2^29
abbrev pub radius_allowed : Float → Bool
radius_allowed radius = all_meet (radius_row radius)

-- 14, 22, 25, the advances to T2, and the burn
unfoldable pub burn_of : Centre → State → ℤ → State → ℤ → ℤ → ℤ → Result Burn Refusal
burn_of k active ta passive tp t2 t3 =
    cond (ltb 1 k.body) (Err Refusal.NotAllowed)
    (cond (radius_allowed k.radius)
    (cond (at_least t2 t3 60000) (from_active k (at_time k.mu active ta t2) (at_time k.mu passive tp t2)) (Err Refusal.TooSoon))
    (Err Refusal.SettingOutOfRange))

-- the refusal's number, and 0 for an answer
unfoldable pub burn_number : Result Burn Refusal → ℕ
burn_number (Ok b) = 0
burn_number (Err n) = number_of n
