-- The law of each turn of `feed`. Assumes nothing.
use Prim.Native.Nat.{ℕ}
use mathlib.Core.Path.{◌≡◌}
use mathlib.Core.List.{List, []}
use Rattle.session.specs.declared.record.Record.{Record}
use Rattle.session.specs.declared.Place.{Place}
use Rattle.session.specs.declared.Reading.{Reading}
use Rattle.stream.specs.declared.Standing.{Standing}
use Rattle.stream.specs.declared.Standing.TheVariants.{Open}
use Rattle.stream.specs.declared.Step.TheVariants as S
use Rattle.stream.specs.Stream.{step_of, room_of}
use Rattle.stream.specs.Calls.{Calls, last, next, sets}
use Rattle.watch.specs.Feeds.{Fed-by}

-- what the calls from here on lead to, the calls of the whole part lead to
pub record Leads (x : Standing) (d part : List ℕ) (y : Standing) (e : List ℕ) (from : ℕ) : Type 0 where
  pub whole : (xs : List Reading) (z : Standing) (f : List ℕ) → Calls y e part from xs z f → Fed-by x d part z f

pub begin : (x : Standing) (d part : List ℕ) → Leads x d part x d 0
begin x d part = record { whole = λ xs z f c. record { readings = xs; calls = c } }

module _ {x : Standing} {d part : List ℕ} {y : Standing} {e : List ℕ} {from : ℕ} (a : Leads x d part y e from) {f : List ℕ} (m : f ≡ room_of y e part from) where
  pub on-record : (r : Record) (q : Place) (at : ℕ) → S.Record r q at ≡ step_of y e part from → Leads x d part (Open q 0) f at
  on-record r q at s = rw m (record { whole = λ xs z g c. a.whole _ z g (next s c) })

  pub on-offset : (q : Place) (at : ℕ) → S.Offset q at ≡ step_of y e part from → Leads x d part (Open q 0) f at
  on-offset q at s = rw m (record { whole = λ xs z g c. a.whole _ z g (sets s c) })

  pub on-stop : (z : Standing) → S.Stopped z ≡ step_of y e part from → Fed-by x d part z f
  on-stop z s = rw m (a.whole [] z (room_of y e part from) (last s))
