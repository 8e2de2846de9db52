-- A call for a number, a look or a solve returns 0 where it answers, and nowhere else: no refusal has the number 0. Of a refusal
-- that says nothing could be told. Assumes nothing.
use Prim.Native.Nat.{ℕ}
use mathlib.Core.List.{List}
use lib.IntN.{ℤ}
use lib.Ieee.{Float}
use Rattle.root.specs.Root.{root_answer}
use Rattle.series.specs.Series.{c_answer, s_answer}
use Rattle.library.specs.Answers.{one_in, transfer_time_in, apsides_in, wheel_in, sight_in}
use Rattle.library_solves.specs.Solves.{trial_in, advance_in, transfer_in}
use Rattle.library_advances.specs.Advances.{advance_within_in, advance_by_in}
use Rattle.library_transfers.specs.Transfers.{transfer_within_in, transfer_by_in}
use Rattle.numbered.specs.Zero.{ZeroAnswers}
use Rattle.numbered.proofs.Refusals.{zero-answers}

pub root-answers : (x : Float) (d : List Float) → ZeroAnswers (one_in (root_answer x) d)
root-answers x d = zero-answers _

pub c-answers : (xi : Float) (d : List Float) → ZeroAnswers (one_in (c_answer xi) d)
c-answers xi d = zero-answers _

pub s-answers : (xi : Float) (d : List Float) → ZeroAnswers (one_in (s_answer xi) d)
s-answers xi d = zero-answers _

pub time-answers : (mu : Float) (s : List Float) (sin cos : Float) (d : List Float) → ZeroAnswers (transfer_time_in mu s sin cos d)
time-answers mu s sin cos d = zero-answers _

pub apsides-answers : (mu : Float) (s d : List Float) (w : List ℕ) → ZeroAnswers (apsides_in mu s d w)
apsides-answers mu s d w = zero-answers _

pub wheel-answers : (e : ℕ) (d : List Float) → ZeroAnswers (wheel_in e d)
wheel-answers e d = zero-answers _

pub sight-answers : (a p : List Float) (e : ℕ) (h v d : List Float) → ZeroAnswers (sight_in a p e h v d)
sight-answers a p e h v d = zero-answers _

pub trial-answers : (asked : Float) (lo hi : ℤ) (j : ℕ) (s : Float) (k : ℕ) (t : Float) (n : ℕ) (w : List ℕ) → ZeroAnswers (trial_in asked lo hi j s k t n w)
trial-answers asked lo hi j s k t n w = zero-answers _

pub advance-answers : (mu : Float) (s : List Float) (t : Float) (d : List Float) (w : List ℕ) → ZeroAnswers (advance_in mu s t d w)
advance-answers mu s t d w = zero-answers _

pub advance-within-answers : (mu : Float) (s : List Float) (t : Float) (times : List Float) (from : List ℕ) (limit : ℕ) (d : List Float) (w : List ℕ)
    → ZeroAnswers (advance_within_in mu s t times from limit d w)
advance-within-answers mu s t times from limit d w = zero-answers _

pub advance-by-answers : (used : List ℕ) (k : ℕ) (mu : Float) (s : List Float) (t : Float) (times : List Float) (from : List ℕ) (limit : ℕ) (d : List Float) (w : List ℕ)
    → ZeroAnswers (advance_by_in used k mu s t times from limit d w)
advance-by-answers used k mu s t times from limit d w = zero-answers _

pub transfer-answers : (mu : Float) (a b : List Float) (k : ℕ) (normal : List Float) (t : Float) (d : List Float) (w : List ℕ)
    → ZeroAnswers (transfer_in mu a b k normal t d w)
transfer-answers mu a b k normal t d w = zero-answers _

pub transfer-within-answers : (mu : Float) (a b : List Float) (k : ℕ) (normal : List Float) (t : Float) (times : List Float) (from : List ℕ) (limit : ℕ) (d : List Float) (w : List ℕ)
    → ZeroAnswers (transfer_within_in mu a b k normal t times from limit d w)
transfer-within-answers mu a b k normal t times from limit d w = zero-answers _

pub transfer-by-answers : (used : List ℕ) (version : ℕ) (mu : Float) (a b : List Float) (k : ℕ) (normal : List Float) (t : Float) (times : List Float) (from : List ℕ) (limit : ℕ) (d : List Float) (w : List ℕ)
    → ZeroAnswers (transfer_by_in used version mu a b k normal t times from limit d w)
transfer-by-answers used version mu a b k normal t times from limit d w = zero-answers _
