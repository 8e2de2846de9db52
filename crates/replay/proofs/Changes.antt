-- What a record changes: a refused one nothing, a mark both vehicles or neither, a state and a burn no other vehicle than their own. Assumes nothing.
use Rattle.std.specs.Prelude.{Err, None, Ok, Option, Result, Some}
use Rattle.refusal.specs.declared.Refusal.{Refusal}
use Prim.Native.Nat.{ℕ}
use mathlib.Core.Path.{◌≡◌, refl, sym, ap}
use mathlib.Core.Logic.{◌⊎◌, inl, inr}
use mathlib.Core.Bool.{Bool, true, false, cond, not, true≢false}
use lib.Dec.{eqb}
use lib.IntN.{ℤ}
use lib.Ieee.{Float}
use Rattle.facts.proofs.Wholes.{zero_one}
use Rattle.session.specs.declared.record.Record.{Record}
use Rattle.session.specs.declared.record.Record.TheVariants as R
use Rattle.session.specs.declared.record.MarkRecord.{MarkRecord}
use Rattle.flight.specs.declared.Mu.{Mu}
use Rattle.flight.specs.declared.Flight.{Flight}
use Rattle.flight.specs.Flight.{too_far, flown_of, off_of}
use Rattle.flight.proofs.Came.{Came, flown-came}
use Rattle.replay.specs.declared.Replay.{Replay}
use Rattle.replay.specs.declared.Answer.TheVariants as A
use Rattle.replay.specs.Replay.{vehicle_of, with_of, burn_from, met_of, both_of, pair_of, pair_from, burn_done, mark_done, step_of}

-- ---- a refused record leaves the replay as it was

set-not-refused : (n : Refusal) → A.Set ≡ A.Refused n → ⊥
set-not-refused n e = let z : ◌≡◌ {A = ℕ} 0 1 = cc in zero_one z

done-not-refused : (n : Refusal) → A.Done ≡ A.Refused n → ⊥
done-not-refused n e = let z : ◌≡◌ {A = ℕ} 0 1 = cc in zero_one z

off-not-refused : (x : Float) (n : Refusal) → A.Off x ≡ A.Refused n → ⊥
off-not-refused x n e = let z : ◌≡◌ {A = ℕ} 0 1 = cc in zero_one z

pub refused-stays : (mu : Mu) (p : Replay) (r : Record) (n : Refusal) → (step_of mu p r).answer ≡ A.Refused n → (step_of mu p r).replay ≡ p
unfolding step_of burn_done mark_done
refused-stays mu p (R.State r) n e = absurd (set-not-refused n e)
refused-stays mu p (R.Burn r) n e = go (burn_from mu (vehicle_of p r.vehicle) r) e
  where
    go : (x : Result Flight Refusal) → (burn_done p r.vehicle x).answer ≡ A.Refused n → (burn_done p r.vehicle x).replay ≡ p
    go (Ok f) e = absurd (done-not-refused n e)
    go (Err m) e = refl
refused-stays mu p (R.Mark r) n e = go (pair_from mu p r.time) e
  where
    go : (x : Result (Flight × Flight) Refusal) → (mark_done p r.range x).answer ≡ A.Refused n → (mark_done p r.range x).replay ≡ p
    go (Ok (a, b)) e = absurd (off-not-refused (off_of a b r.range) n e)
    go (Err m) e = refl

-- ---- a mark advances both vehicles to its time, or neither

pub record Marked (mu : Mu) (p : Replay) (r : MarkRecord) : Type 0 where
  pub from0 : Flight
  pub from1 : Flight
  pub to0 : Flight
  pub to1 : Flight
  pub held0 : p.v0 ≡ Some from0
  pub held1 : p.v1 ≡ Some from1
  pub now0 : (step_of mu p (R.Mark r)).replay.v0 ≡ Some to0
  pub now1 : (step_of mu p (R.Mark r)).replay.v1 ≡ Some to1
  pub came0 : Came from0 r.time to0
  pub came1 : Came from1 r.time to1
  pub off : (step_of mu p (R.Mark r)).answer ≡ A.Off (off_of to0 to1 r.range)

-- both come through, each by its own advance
pub record Meets (mu : Mu) (x y : Option Flight) (t : ℤ) (c d : Flight) : Type 0 where
  pub from0 : Flight
  pub from1 : Flight
  pub held0 : x ≡ Some from0
  pub held1 : y ≡ Some from1
  pub flown0 : flown_of mu from0 t ≡ Ok c
  pub flown1 : flown_of mu from1 t ≡ Ok d

refused-not-both : (n : Refusal) (c d : Flight) → ◌≡◌ {A = Result (Flight × Flight) Refusal} (Err n) (Ok (c, d)) → ⊥
refused-not-both n c d e = let z : ◌≡◌ {A = ℕ} 0 1 = cc in zero_one z

met : (x y : Result Flight Refusal) (c d : Flight) → met_of x y ≡ Ok (c, d) → (x ≡ Ok c) × (y ≡ Ok d)
unfolding met_of
met (Err n) y c d e = absurd (refused-not-both n c d e)
met (Ok a) (Err n) c d e = absurd (refused-not-both n c d e)
met (Ok a) (Ok b) c d e = let p : (a, b) ≡ (c, d) = cc in (ap (λ (z : Flight × Flight). Ok z.0) p, ap (λ (z : Flight × Flight). Ok z.1) p)

both-met : (mu : Mu) (a b : Flight) (t : ℤ) (c d : Flight) → both_of mu a b t ≡ Ok (c, d) → (flown_of mu a t ≡ Ok c) × (flown_of mu b t ≡ Ok d)
unfolding both_of
both-met mu a b t c d e = go (not (eqb a.body b.body)) (too_far a t) (too_far b t) e
  where
    go : (k l m : Bool) → cond k (Err Refusal.TwoBodies) (cond l (Err Refusal.TimeOutOfRange) (cond m (Err Refusal.TimeOutOfRange) (met_of (flown_of mu a t) (flown_of mu b t)))) ≡ Ok (c, d)
        → (flown_of mu a t ≡ Ok c) × (flown_of mu b t ≡ Ok d)
    go true l m e = absurd (refused-not-both Refusal.TwoBodies c d e)
    go false true m e = absurd (refused-not-both Refusal.TimeOutOfRange c d e)
    go false false true e = absurd (refused-not-both Refusal.TimeOutOfRange c d e)
    go false false false e = met (flown_of mu a t) (flown_of mu b t) c d e

pub pair-meets : (mu : Mu) (x y : Option Flight) (t : ℤ) (c d : Flight) → pair_of mu x y t ≡ Ok (c, d) → Meets mu x y t c d
unfolding pair_of
pair-meets mu None y t c d e = absurd (refused-not-both Refusal.NotSet c d e)
pair-meets mu (Some a) None t c d e = absurd (refused-not-both Refusal.NotSet c d e)
pair-meets mu (Some a) (Some b) t c d e =
    let q = both-met mu a b t c d e in
    record { from0 = a; from1 = b; held0 = refl; held1 = refl; flown0 = q.0; flown1 = q.1 }

pub both-or-neither : (mu : Mu) (p : Replay) (r : MarkRecord) → ((step_of mu p (R.Mark r)).replay ≡ p) ⊎ Marked mu p r
unfolding step_of mark_done
both-or-neither mu p r = go (pair_from mu p r.time) refl
  where
    go : (x : Result (Flight × Flight) Refusal) → pair_from mu p r.time ≡ x → ((step_of mu p (R.Mark r)).replay ≡ p) ⊎ Marked mu p r
    go (Err n) e = inl (ap (λ (y : Result (Flight × Flight) Refusal). (mark_done p r.range y).replay) e)
    go (Ok (c, d)) e =
        let m = pair-meets mu p.v0 p.v1 r.time c d e in
        inr
        (record {
          from0 = m.from0;
          from1 = m.from1;
          to0 = c;
          to1 = d;
          held0 = m.held0;
          held1 = m.held1;
          now0 = ap (λ (y : Result (Flight × Flight) Refusal). (mark_done p r.range y).replay.v0) e;
          now1 = ap (λ (y : Result (Flight × Flight) Refusal). (mark_done p r.range y).replay.v1) e;
          came0 = flown-came mu m.from0 r.time c m.flown0;
          came1 = flown-came mu m.from1 r.time d m.flown1;
          off = ap (λ (y : Result (Flight × Flight) Refusal). (mark_done p r.range y).answer) e;
        })

-- ---- a state and a burn leave the other vehicle as it was

pub other-stays : (p : Replay) (v w : ℕ) (f : Flight) → eqb w 0 ≡ not (eqb v 0) → vehicle_of (with_of p v f) w ≡ vehicle_of p w
unfolding vehicle_of with_of
other-stays p v w f e = go (eqb v 0) (eqb w 0) e
  where
    go : (a b : Bool) → b ≡ not a
        → cond b (cond {A = Replay} a (record { v0 = Some f; v1 = p.v1 }) (record { v0 = p.v0; v1 = Some f })).v0 (cond {A = Replay} a (record { v0 = Some f; v1 = p.v1 }) (record { v0 = p.v0; v1 = Some f })).v1
        ≡ cond b p.v0 p.v1
    go true true e = absurd (true≢false e)
    go true false e = refl
    go false true e = refl
    go false false e = absurd (true≢false (sym e))
