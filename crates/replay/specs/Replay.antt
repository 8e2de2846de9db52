-- A session flown again (02, T-10): one state a vehicle, and what each record does to them. Assumes nothing: these are definitions.
use Rattle.refusal.specs.declared.Refusal.{Refusal}
use Rattle.std.specs.Prelude.{ℕ, cond, not, eqb, ℤ, Float, Err, None, Ok, Option, Result, Some}
use Rattle.vector.specs.declared.Vector.{Vector}
use Rattle.session.specs.declared.record.Record.{Record}
use Rattle.session.specs.declared.record.Record.TheVariants as R
use Rattle.session.specs.declared.record.StateRecord.{StateRecord}
use Rattle.session.specs.declared.record.BurnRecord.{BurnRecord}
use Rattle.session.specs.declared.record.MarkRecord.{MarkRecord}
use Rattle.flight.specs.declared.Mu.{Mu}
use Rattle.flight.specs.declared.Flight.{Flight}
use Rattle.flight.specs.Flight.{too_far, flown_of, burned_of, off_of}
use Rattle.replay.specs.declared.Replay.{Replay}
use Rattle.replay.specs.declared.Answer.{Answer as AnswerOf}
use Rattle.replay.specs.declared.Answer.TheVariants as A
use Rattle.replay.specs.declared.Stepped.{Stepped}

-- a step's own answer, whose refusal is a case of `Refusal`; AnswerOf R has a refusal of another type, as any number
abbrev pub Answer : Type 0
Answer = AnswerOf Refusal

-- ---- the two vehicles

unfoldable pub vehicle_of : Replay → ℕ → Option Flight
vehicle_of p v = cond (eqb v 0) p.v0 p.v1

unfoldable pub with_of : Replay → ℕ → Flight → Replay
with_of p v f = cond (eqb v 0) (record { v0 = Some f; v1 = p.v1 }) (record { v0 = p.v0; v1 = Some f })

-- no vehicle is set before the first record
abbrev pub nobody : Replay
nobody = record { v0 = None; v1 = None }

-- ---- a burn advances its vehicle to the burn's time and adds the change

unfoldable pub burn_then : Result Flight Refusal → Vector → Result Flight Refusal
burn_then (Ok f) d = burned_of f d
burn_then (Err n) d = Err n

-- 20 for a vehicle that is not set
unfoldable pub burn_from : Mu → Option Flight → BurnRecord → Result Flight Refusal
burn_from mu None r = Err Refusal.NotSet
burn_from mu (Some f) r = burn_then (flown_of mu f r.time) r.change

-- ---- a mark advances both vehicles to its time; its answer is the computed range minus the recorded one

unfoldable pub met_of : Result Flight Refusal → Result Flight Refusal → Result (Flight × Flight) Refusal
met_of (Err n) y = Err n
met_of (Ok a) (Err n) = Err n
met_of (Ok a) (Ok b) = Ok (a, b)

-- 21 for two bodies, 5 for the one or the other, then Kepler's
unfoldable pub both_of : Mu → Flight → Flight → ℤ → Result (Flight × Flight) Refusal
both_of mu a b t =
    cond (not (eqb a.body b.body)) (Err Refusal.TwoBodies)
    (cond (too_far a t) (Err Refusal.TimeOutOfRange) (cond (too_far b t) (Err Refusal.TimeOutOfRange) (met_of (flown_of mu a t) (flown_of mu b t))))

-- 20 where the one or the other is not set
unfoldable pub pair_of : Mu → Option Flight → Option Flight → ℤ → Result (Flight × Flight) Refusal
pair_of mu None y t = Err Refusal.NotSet
pair_of mu (Some a) None t = Err Refusal.NotSet
pair_of mu (Some a) (Some b) t = both_of mu a b t

abbrev pub pair_from : Mu → Replay → ℤ → Result (Flight × Flight) Refusal
pair_from mu p t = pair_of mu p.v0 p.v1 t

-- ---- a record: the vehicles after it, and what it came to; a refused one changes neither vehicle

abbrev pub refused_of : Replay → Refusal → Stepped
refused_of p n = record { replay = p; answer = A.Refused n }

abbrev pub state_step : Replay → StateRecord → Stepped
state_step p r = record {
  replay = with_of p r.vehicle (record { body = r.body; time = r.time; state = r.state });
  answer = A.Set;
}

unfoldable pub burn_done : Replay → ℕ → Result Flight Refusal → Stepped
burn_done p v (Ok f) = record { replay = with_of p v f; answer = A.Done }
burn_done p v (Err n) = refused_of p n

abbrev pub burn_step : Mu → Replay → BurnRecord → Stepped
burn_step mu p r = burn_done p r.vehicle (burn_from mu (vehicle_of p r.vehicle) r)

unfoldable pub mark_done : Replay → Float → Result (Flight × Flight) Refusal → Stepped
mark_done p range (Ok (a, b)) = record { replay = record { v0 = Some a; v1 = Some b }; answer = A.Off (off_of a b range) }
mark_done p range (Err n) = refused_of p n

abbrev pub mark_step : Mu → Replay → MarkRecord → Stepped
mark_step mu p r = mark_done p r.range (pair_from mu p r.time)

unfoldable pub step_of : Mu → Replay → Record → Stepped
step_of mu p (R.State r) = state_step p r
step_of mu p (R.Burn r) = burn_step mu p r
step_of mu p (R.Mark r) = mark_step mu p r
