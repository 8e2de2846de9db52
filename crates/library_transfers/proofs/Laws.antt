-- A way or none, judged or not, by what the tests came to. Assumes nothing.
use Prim.Native.Nat.{ℕ}
use mathlib.Core.Path.{refl, ◌≡◌}
use mathlib.Core.Bool.{Bool, true, false}
use mathlib.Core.List.{List}
use lib.Dec.{leb}
use lib.Ieee.{Float}
use Rattle.lent.specs.Given.{Told, room_for, Given}
use Rattle.lent.proofs.Gives.{left, enough}
use Rattle.cases.specs.Cases.{run_misjudged}
use Rattle.library_advances.specs.Advances.{judged_for}
use Rattle.library_advances.proofs.Laws as J
use Rattle.library_transfers.specs.Transfers.{way_for}

pub no_way : {b : Bool} (k : ℕ) (t : Told) {d : List Float} {w : List ℕ} → b ≡ true → leb k 2 ≡ false → Given (room_for b (way_for k t)) d w d w 14
unfolding way_for
no_way k t p q = rw (p, q) (enough (left refl))

pub misjudged : {b : Bool} (k : ℕ) (from : List ℕ) (t : Told) {d : List Float} {w : List ℕ} → b ≡ true → leb k 2 ≡ true → run_misjudged from ≡ true → Given (room_for b (way_for k (judged_for from t))) d w d w 14
unfolding way_for
misjudged k from t p q m = rw q (J.misjudged from t p m)

pub judged : {b : Bool} (k : ℕ) (from : List ℕ) {t : Told} {d : List Float} {w : List ℕ} {e : List Float} {v : List ℕ} {r : ℕ} → b ≡ true → leb k 2 ≡ true → run_misjudged from ≡ false → Given t d w e v r → Given (room_for b (way_for k (judged_for from t))) d w e v r
unfolding way_for
judged k from p q m g = rw q (J.judged from p m g)
