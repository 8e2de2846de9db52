-- The bracket that a solve's trials end on is sound. Assumes nothing.
use Rattle.std.specs.Prelude.{Err, Ok, Result}
use Rattle.reason.specs.declared.Amiss.{Amiss}
use Prim.Native.Nat.{ℕ}
use mathlib.Core.Path.{◌≡◌, refl, subst}
use mathlib.Core.Bool.{true}
use lib.Ieee.{Float}
use Rattle.facts.proofs.Wholes.{zero_one}
use Rattle.vector.specs.declared.Vector.{Vector}
use Rattle.vector.specs.declared.State.{State}
use Rattle.table.specs.Tests.{Entry, first_failing}
use Rattle.iterator.specs.Single.{sound_of}
use Rattle.iterator.specs.declared.Bracket.{Bracket}
use Rattle.iterator.specs.declared.Beginning.{Beginning}
use Rattle.iterator.proofs.Single.{Sound, sound-is, to-sound}
use Rattle.kepler.specs.Kepler.{fall_row}
use Rattle.lambert.specs.declared.Way.{Way}
use Rattle.lambert.specs.Lambert.{transfer_of}
use Rattle.problem.specs.Problems.{judge_of, stopped_of}
use Rattle.problem.specs.declared.Problem.{Problem}
use Rattle.problem.specs.declared.Problem.TheVariants.{Kepler, Lambert}
use Rattle.problem.proofs.Told.{told}
use Rattle.trials.specs.Ended.{Ended, begun_of, ended_from}
use Rattle.solve.specs.Ahead.{kepler_ahead, lambert_ahead}
use Rattle.solve.specs.Ends.{motion_for, turns_for, kepler_ended, lambert_ended}
use Rattle.trials.specs.declared.Ended.TheVariants as E
use Rattle.solve.proofs.Parts.{kepler-whole, lambert-whole}
use Rattle.solve.proofs.Asked.{rest-asked, lambert-asked}
use Rattle.solve.proofs.Beginnings.{begun-sound}

abbrev pub IsSound : Float → Bracket → Type 0
IsSound asked b = sound_of asked b.lo b.hi b.below b.above ≡ true

-- a sound bracket stays so
gone-on : (problem : Problem) (asked : Float) (limit : ℕ) (s b : Bracket) → Sound asked s → ◌≡◌ {A = Ended} (E.At (stopped_of problem asked limit s)) (E.At b) → IsSound asked b
gone-on problem asked limit s b h e =
    let i : stopped_of problem asked limit s ≡ b = cc in
    sound-is (subst (Sound asked) i (to-sound (judge_of problem asked) asked (told problem asked) limit s h))

pub kepler-sound : (mu : Float) (s : State) (t : Float) (limit : ℕ) (g : Beginning) (b : Bracket) → kepler_ended mu s t limit g ≡ E.At b → IsSound (turns_for mu s t).rest b
unfolding ended_from
kepler-sound mu s t limit g b e =
    go (first_failing (kepler_ahead mu s t (motion_for mu s t) g)) (begun_of (Kepler (motion_for mu s t)) (turns_for mu s t).rest g) (first_failing (fall_row mu s (motion_for mu s t).orbit.r1)) refl refl refl e
  where
    go : (p : Result Unit Entry) (v : Result Bracket Amiss) (q : Result Unit Entry) → first_failing (kepler_ahead mu s t (motion_for mu s t) g) ≡ p → begun_of (Kepler (motion_for mu s t)) (turns_for mu s t).rest g ≡ v
        → first_failing (fall_row mu s (motion_for mu s t).orbit.r1) ≡ q → ended_from p v q (Kepler (motion_for mu s t)) (turns_for mu s t).rest limit ≡ E.At b → IsSound (turns_for mu s t).rest b
    go (Err f) v q i j k e = let z : ◌≡◌ {A = ℕ} 0 1 = cc in absurd (zero_one z)
    go (Ok tt) (Err a) q i j k e = let z : ◌≡◌ {A = ℕ} 0 1 = cc in absurd (zero_one z)
    go (Ok tt) (Ok c) (Err f) i j k e = let z : ◌≡◌ {A = ℕ} 0 1 = cc in absurd (zero_one z)
    go (Ok u) (Ok c) (Ok tt) i j k e =
        gone-on (Kepler (motion_for mu s t)) (turns_for mu s t).rest limit c b
        (begun-sound (Kepler (motion_for mu s t)) (turns_for mu s t).rest (rest-asked mu s t (kepler-whole mu s t (motion_for mu s t) g i k)) g c j) e

pub lambert-sound : (mu : Float) (first second : Vector) (way : Way) (t : Float) (limit : ℕ) (g : Beginning) (b : Bracket) → lambert_ended mu first second way t limit g ≡ E.At b → IsSound t b
unfolding ended_from
lambert-sound mu first second way t limit g b e =
    go (first_failing (lambert_ahead mu first second way t (transfer_of mu first second way) g)) (begun_of (Lambert (transfer_of mu first second way)) t g) refl refl e
  where
    go : (p : Result Unit Entry) (v : Result Bracket Amiss) → first_failing (lambert_ahead mu first second way t (transfer_of mu first second way) g) ≡ p → begun_of (Lambert (transfer_of mu first second way)) t g ≡ v
        → ended_from p v (Ok tt) (Lambert (transfer_of mu first second way)) t limit ≡ E.At b → IsSound t b
    go (Err f) v i j e = let z : ◌≡◌ {A = ℕ} 0 1 = cc in absurd (zero_one z)
    go (Ok tt) (Err a) i j e = let z : ◌≡◌ {A = ℕ} 0 1 = cc in absurd (zero_one z)
    go (Ok tt) (Ok c) i j e =
        gone-on (Lambert (transfer_of mu first second way)) t limit c b
        (begun-sound (Lambert (transfer_of mu first second way)) t (lambert-asked mu first second way t (transfer_of mu first second way) (lambert-whole mu first second way t (transfer_of mu first second way) g i)) g c j) e
