-- The refusal's number: 1 for a ξ that is not finite, then 6 for one out of its range; of c, of s, and of both. Assumes nothing.
use Rattle.std.specs.Prelude.{Err, Ok}
use Rattle.refusal.specs.declared.Refusal.TheVariants as Refusal
use Prim.Native.Nat.{ℕ}
use mathlib.Core.Path.{◌≡◌, refl}
use mathlib.Core.Bool.{Bool, true, false, cond, not}
use lib.Ieee.{Float}
use Rattle.real.specs.F64.{finite}
use Rattle.real.specs.Numbers.{answer_number}
use Rattle.series.specs.Series.{in_range, pair_at, answer, both_answer, both_number}

abbrev pub xi_number : Float → ℕ
xi_number x = cond (not (finite x)) 1 (cond (not (in_range x)) 6 0)

pub series-number : (x v : Float) → answer_number (answer x v) ≡ xi_number x
unfolding answer_number answer
series-number x v = go (not (finite x)) (not (in_range x))
  where
    go : (a b : Bool) → answer_number (cond a (Err Refusal.NotFinite) (cond b (Err Refusal.DerivedOutOfRange) (Ok v))) ≡ cond a 1 (cond b 6 0)
    go true b = refl
    go false true = refl
    go false false = refl

pub both_number_lem : (x : Float) → both_number (both_answer x) ≡ xi_number x
unfolding both_number both_answer
both_number_lem x = go (not (finite x)) (not (in_range x))
  where
    go : (a b : Bool) → both_number (cond a (Err Refusal.NotFinite) (cond b (Err Refusal.DerivedOutOfRange) (Ok (pair_at 3 x)))) ≡ cond a 1 (cond b 6 0)
    go true b = refl
    go false true = refl
    go false false = refl
