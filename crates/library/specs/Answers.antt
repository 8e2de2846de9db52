-- Each routine's answer as a number and a case. Assumes nothing: these are definitions.
use Rattle.wheel.specs.declared.Direction.{Direction}
use Rattle.sight.specs.declared.Points.{Points}
use Rattle.refusal.specs.declared.Refusal.{Refusal}
use Rattle.std.specs.Prelude.{ℕ, ◌&&◌, List, [], ◌∷◌, leb, length, Float, Err, Ok, Result}
use Rattle.theta.specs.declared.TransferTime.TheVariants as T
use Rattle.theta.specs.Theta.{TransferTime, theta_of}
use Rattle.apsides.specs.declared.Apsides.TheVariants as A
use Rattle.apsides.specs.Apsides.{Apsides, apsides_of}
use Rattle.wheel.specs.Wheel.{wheel_of}
use Rattle.sight.specs.Sight.{sight_of}
use Rattle.lent.specs.Given.{Told, answer, refused, room_for, vector_in, state_in}

-- ---- a number: x

unfoldable pub one_told : Result Float Refusal → Told
one_told (Ok x) = answer (x ∷ []) []
one_told (Err n) = refused n

abbrev pub one_in : Result Float Refusal → List Float → Told
one_in a d = room_for (leb 1 (length d)) (one_told a)

-- ---- a transfer time: the time; too long is 7, too short 8

unfoldable pub transfer_time_told : TransferTime → Told
transfer_time_told (T.Time t) = answer (t.time ∷ []) []
transfer_time_told T.TooLong = refused Refusal.TooLong
transfer_time_told T.TooShort = refused Refusal.TooShort
transfer_time_told (T.Refused n) = refused n

abbrev pub transfer_time_in : Float → List Float → Float → Float → List Float → Told
transfer_time_in mu s sin cos d = room_for (leb 6 (length s) && leb 1 (length d)) (transfer_time_told (theta_of mu (state_in s) sin cos))

-- ---- apsides: closed is case 0, near and far; open is case 1, near alone

unfoldable pub apsides_told : Apsides → Told
apsides_told (A.Closed near far) = answer (near ∷ far ∷ []) (0 ∷ [])
apsides_told (A.Open near) = answer (near ∷ []) (1 ∷ [])
apsides_told (A.Refused n) = refused n

abbrev pub apsides_in : Float → List Float → List Float → List ℕ → Told
apsides_in mu s d w = room_for (leb 6 (length s) && leb 2 (length d) && leb 1 (length w)) (apsides_told (apsides_of mu (state_in s)))

-- ---- the thumbwheel: sine, cosine

unfoldable pub wheel_told : Result Direction Refusal → Told
wheel_told (Ok x) = answer (x.sine ∷ x.cosine ∷ []) []
wheel_told (Err n) = refused n

abbrev pub wheel_in : ℕ → List Float → Told
wheel_in e d = room_for (leb 2 (length d)) (wheel_told (wheel_of e))

-- ---- the sight line: the larger k, the smaller k, the first point, the second point

unfoldable pub sight_told : Result Points Refusal → Told
sight_told (Ok p) =
    answer
    (p.larger ∷ p.smaller ∷ p.first.x ∷ p.first.y ∷ p.first.z ∷ p.second.x ∷ p.second.y ∷ p.second.z ∷ [])
    []
sight_told (Err n) = refused n

abbrev pub sight_in : List Float → List Float → ℕ → List Float → List Float → List Float → Told
sight_in a p e h v d =
    room_for
    (leb 3 (length a) && leb 3 (length p) && leb 3 (length h) && leb 3 (length v) && leb 8 (length d))
    (sight_told (sight_of (vector_in a) (vector_in p) e (vector_in h) (vector_in v)))
