-- The machine over a session: its parts one after another, and what is true of every state it holds. Assumes nothing.
use Rattle.std.specs.Prelude.{Err, None, Ok, Option, Result, Some}
use Rattle.refusal.specs.declared.Refusal.{Refusal}
use mathlib.Core.Path.{◌≡◌, refl}
use mathlib.Core.List.{List, [], ◌∷◌, ◌++◌}
use mathlib.Core.Bool.{Bool, true, false, ◌&&◌, cond}
use lib.Dec.{eqb}
use Prim.Native.Nat.{ℕ}
use Rattle.facts.proofs.Truth.{and_0, and-1}
use Rattle.real.specs.F64.{finite}
use Rattle.vector.specs.Vectors.{velocity_of}
use Rattle.table.specs.declared.Name.TheVariants.{Velocity}
use Rattle.table.specs.Tests.{all_meet}
use Rattle.rows.specs.Rows.{velocity_components}
use Rattle.kepler.proofs.Laws.{FiniteState}
use Rattle.session.specs.declared.record.Record.{Record}
use Rattle.session.specs.declared.record.Record.TheVariants as R
use Rattle.session.specs.declared.record.StateRecord.{StateRecord}
use Rattle.session.specs.declared.record.BurnRecord.{BurnRecord}
use Rattle.session.specs.Layout.{all_finite, numbers_in}
use Rattle.flight.specs.declared.Mu.{Mu}
use Rattle.flight.specs.declared.Flight.{Flight}
use Rattle.flight.specs.Flight.{flown_of}
use Rattle.flight.proofs.Came.{not-refused, flown-came, burned-came, burned-in-range}
use Rattle.replay.specs.declared.Replay.{Replay}
use Rattle.replay.specs.Replay.{nobody, vehicle_of, with_of, burn_then, burn_from, pair_from, burn_done, mark_done, step_of}
use Rattle.replay.specs.Machine.{after_of}
use Rattle.replay.proofs.Changes.{pair-meets}

-- ---- some records, then the rest

pub after_then : (mu : Mu) (p : Replay) (rs qs : List Record) → after_of mu p (rs ++ qs) ≡ after_of mu (after_of mu p rs) qs
unfolding after_of
after_then mu p [] qs = refl
after_then mu p (r ∷ rs) qs = after_then mu (step_of mu p r).replay rs qs

-- ---- no state held has a NaN or an infinity, where the numbers of the records have none: and the reader hands out no others

abbrev pub Sound : Option Flight → Type 0
Sound None = Unit {0}
Sound (Some f) = FiniteState f.state

pub record BothSound (p : Replay) : Type 0 where
  pub v0 : Sound p.v0
  pub v1 : Sound p.v1

abbrev pub Numbers : List Record → Type 0
Numbers [] = Unit {0}
Numbers (r ∷ rs) = (all_finite (numbers_in r) ≡ true) × Numbers rs

state-finite : (r : StateRecord) → all_finite (numbers_in (R.State r)) ≡ true → FiniteState r.state
unfolding all_finite
state-finite r h =
    let s = r.state in
    let c : Bool = finite s.vz && true in
    let b : Bool = finite s.vy && c in
    let a : Bool = finite s.vx && b in
    let z : Bool = finite s.rz && a in
    let y : Bool = finite s.ry && z in
    let hy = and-1 (finite s.rx) y h in
    let hz = and-1 (finite s.ry) z hy in
    let ha = and-1 (finite s.rz) a hz in
    let hb = and-1 (finite s.vx) b ha in
    let hc = and-1 (finite s.vy) c hb in
    record {
      r = record { x = and_0 (finite s.rx) y h; y = and_0 (finite s.ry) z hy; z = and_0 (finite s.rz) a hz };
      v = record { x = and_0 (finite s.vx) b ha; y = and_0 (finite s.vy) c hb; z = and_0 (finite s.vz) true hc };
    }

with-sound : (p : Replay) (v : ℕ) (f : Flight) → BothSound p → FiniteState f.state → BothSound (with_of p v f)
unfolding with_of
with-sound p v f h k = go (eqb v 0)
  where
    go : (b : Bool) → BothSound (cond b (record { v0 = Some f; v1 = p.v1 }) (record { v0 = p.v0; v1 = Some f }))
    go true = record { v0 = k; v1 = h.v1 }
    go false = record { v0 = h.v0; v1 = k }

burn-finite : (mu : Mu) (x : Option Flight) (r : BurnRecord) (g : Flight) → burn_from mu x r ≡ Ok g → FiniteState g.state
unfolding burn_from burn_then
burn-finite mu None r g e = absurd (not-refused Refusal.NotSet g e)
burn-finite mu (Some f) r g e = go (flown_of mu f r.time) refl e
  where
    go : (x : Result Flight Refusal) → flown_of mu f r.time ≡ x → burn_then x r.change ≡ Ok g → FiniteState g.state
    go (Ok h) k e = (burned-came h r.change g (flown-came mu f r.time h k).state e).state
    go (Err n) k e = absurd (not-refused n g e)

pub step-sound : (mu : Mu) (p : Replay) (r : Record) → BothSound p → all_finite (numbers_in r) ≡ true → BothSound (step_of mu p r).replay
unfolding step_of burn_done mark_done
step-sound mu p (R.State r) h k = with-sound p r.vehicle (record { body = r.body; time = r.time; state = r.state }) h (state-finite r k)
step-sound mu p (R.Burn r) h k = go (burn_from mu (vehicle_of p r.vehicle) r) refl
  where
    go : (x : Result Flight Refusal) → burn_from mu (vehicle_of p r.vehicle) r ≡ x → BothSound (burn_done p r.vehicle x).replay
    go (Ok g) e = with-sound p r.vehicle g h (burn-finite mu (vehicle_of p r.vehicle) r g e)
    go (Err n) e = h
step-sound mu p (R.Mark r) h k = go (pair_from mu p r.time) refl
  where
    go : (x : Result (Flight × Flight) Refusal) → pair_from mu p r.time ≡ x → BothSound (mark_done p r.range x).replay
    go (Ok (c, d)) e =
        let m = pair-meets mu p.v0 p.v1 r.time c d e in
        record { v0 = (flown-came mu m.from0 r.time c m.flown0).state; v1 = (flown-came mu m.from1 r.time d m.flown1).state }
    go (Err n) e = h

after-sound : (mu : Mu) (p : Replay) (rs : List Record) → BothSound p → Numbers rs → BothSound (after_of mu p rs)
unfolding after_of
after-sound mu p [] h k = h
after-sound mu p (r ∷ rs) h k = after-sound mu (step_of mu p r).replay rs (step-sound mu p r h k.0) k.1

pub session-sound : (mu : Mu) (rs : List Record) → Numbers rs → BothSound (after_of mu nobody rs)
session-sound mu rs k = after-sound mu nobody rs (record { v0 = tt; v1 = tt }) k

-- ---- the velocity after a burn that is done is in row 4's range

pub burn-in-range : (mu : Mu) (x : Option Flight) (r : BurnRecord) (g : Flight) → burn_from mu x r ≡ Ok g
    → all_meet (velocity_components Refusal.VelocityOutOfRange Velocity (velocity_of g.state)) ≡ true
unfolding burn_from burn_then
burn-in-range mu None r g e = absurd (not-refused Refusal.NotSet g e)
burn-in-range mu (Some f) r g e = go (flown_of mu f r.time) e
  where
    go : (x : Result Flight Refusal) → burn_then x r.change ≡ Ok g → all_meet (velocity_components Refusal.VelocityOutOfRange Velocity (velocity_of g.state)) ≡ true
    go (Ok h) e = burned-in-range h r.change g e
    go (Err n) e = absurd (not-refused n g e)
