-- Room or none, judged or not, by what the tests came to. Assumes nothing.
use Prim.Native.Nat.{ℕ}
use mathlib.Core.Path.{refl, ◌≡◌}
use mathlib.Core.Bool.{Bool, true, false}
use mathlib.Core.List.{List}
use lib.Ieee.{Float}
use Rattle.lent.specs.Given.{Told, room_for, Given}
use Rattle.lent.proofs.Gives.{left, short, enough}
use Rattle.cases.specs.Cases.{run_misjudged}
use Rattle.library_advances.specs.Advances.{judged_for}

pub no_room : {b : Bool} (t : Told) {d : List Float} {w : List ℕ} → b ≡ false → Given (room_for b t) d w d w 15
no_room t p = rw p (short t)

pub misjudged : {b : Bool} (from : List ℕ) (t : Told) {d : List Float} {w : List ℕ} → b ≡ true → run_misjudged from ≡ true → Given (room_for b (judged_for from t)) d w d w 14
unfolding judged_for
misjudged from t p q = rw (p, q) (enough (left refl))

pub judged : {b : Bool} (from : List ℕ) {t : Told} {d : List Float} {w : List ℕ} {e : List Float} {v : List ℕ} {r : ℕ} → b ≡ true → run_misjudged from ≡ false → Given t d w e v r → Given (room_for b (judged_for from t)) d w e v r
unfolding judged_for
judged from p q g = rw (p, q) (enough g)
