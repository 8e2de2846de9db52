-- Where the trials begin. A bracket that passes row 6, for a time that passes row 5, is sound.
-- What a run from the start hands out, where a limit stops it, passes; and trials that go on from there are one run. Assumes nothing.
use Rattle.reason.specs.declared.Amiss.{Amiss}
use Rattle.std.specs.Prelude.{Ok, Result, Err}
use Prim.Native.Nat.{ℕ}
use native.Mathlib.Nat as Nat
use mathlib.Core.Path.{◌≡◌, refl, sym, ap, ◌∙◌, subst}
use mathlib.Core.Bool.{Bool, true, false, cond}
use lib.IntN.{ℤ}
use lib.Signed.{lt_z}
use lib.Ieee.{Float}
use Rattle.facts.proofs.Truth.{both}
use Rattle.facts.proofs.Wholes.{zero_one}
use Rattle.iterator.specs.Single.{time_finite}
use Rattle.iterator.specs.declared.Judgement.{Judgement}
use Rattle.iterator.specs.declared.Judgement.TheVariants.{Low, High, Under, Over}
use Rattle.iterator.specs.declared.Bracket.{Bracket}
use Rattle.table.specs.declared.Name.{Name}
use Rattle.table.specs.declared.Name.TheVariants.{Lo, Hi}
use Rattle.table.specs.Tests.{all_meet}
use Rattle.table.proofs.Laws.{meet-both}
use Rattle.iterator.proofs.Whole.{le_trans}
use Rattle.iterator.proofs.Limits.{to-under}
use Rattle.iterator.proofs.Ends.{to-judged, to-stand, lower-from, upper-to}
use Rattle.iterator.proofs.Single.{Sound, Agreeing, told-agrees, time_finite_lem}
use Rattle.problem.specs.Problems.{judge_of, start_of, held_of, stopped_of}
use Rattle.problem.specs.Held.{checked_of}
use Rattle.trials.specs.Ended.{begun_by, begun_of}
use Rattle.trials.proofs.Goes.{Goes, goes, goes_back}
use Rattle.trials.specs.Carried.{time_input, times_input}
use Rattle.problem.specs.declared.Problem.{Problem}
use Rattle.iterator.specs.declared.Beginning.{Beginning}
use Rattle.iterator.specs.declared.Beginning.TheVariants.{Start, Stopped}
use Rattle.problem.proofs.Told.{told}
use Rattle.problem.proofs.Starts.{start-sound}
use Rattle.solve.proofs.Asked.{Asked}
use Rattle.solve.proofs.Last.{held-lower, held-upper, last-ends}

-- what stands at a grid point agrees with its judgement
held-agrees : (problem : Problem) (asked : Float) → Asked asked → (n : ℤ) → Agreeing asked (held_of problem asked n)
unfolding held_of
held-agrees problem asked a n = go (lt_z (start_of problem).lo n) (lt_z n (start_of problem).hi)
  where
    go : (p q : Bool) → Agreeing asked (cond p (cond q (judge_of problem asked n) (start_of problem).above) (start_of problem).below)
    go true true = told-agrees (told problem asked n) a.within
    go true false =
        let h = start-sound problem asked a.within a.at-least in
        record { time_in_lem = h.above_in; agree = h.above-agrees }
    go false q =
        let h = start-sound problem asked a.within a.at-least in
        record { time_in_lem = h.below_in; agree = h.below-agrees }

module _ (problem : Problem) (asked : Float) (a : Asked asked) where
  -- such a bracket is sound
  pub goes-sound : {b : Bracket} → Goes problem asked b → Sound asked b
  goes-sound {b} h =
      let z = start-sound problem asked a.within a.at-least in
      let l = subst (Agreeing asked) (sym h.lower) (held-agrees problem asked a b.lo) in
      let u = subst (Agreeing asked) (sym h.upper) (held-agrees problem asked a b.hi) in
      record {
        from = le_trans z.from h.from;
        order = h.order;
        to = le_trans h.to z.to;
        asked_in = a.within;
        below_in = l.time_in_lem;
        above_in = u.time_in_lem;
        lower = h.below;
        upper = h.above;
        below-agrees = l.agree;
        above-agrees = u.agree;
      }

  pub begun-sound : (g : Beginning) (s : Bracket) → begun_of problem asked g ≡ Ok s → Sound asked s
  unfolding begun_of begun_by
  begun-sound Start s e =
      let i : start_of problem ≡ s = cc in
      subst (Sound asked) i (start-sound problem asked a.within a.at-least)
  begun-sound (Stopped b) s e = go (checked_of problem asked b) refl e
    where
      go : (c : Result Unit Amiss) → checked_of problem asked b ≡ c → begun_by c b ≡ Ok s → Sound asked s
      go (Ok tt) t e =
          let i : b ≡ s = cc in
          subst (Sound asked) i (goes-sound (goes problem asked b t))
      go (Err w) t e = let z : ◌≡◌ {A = ℕ} 0 1 = cc in absurd (zero_one z)

  -- ---- what a run from the start hands out, where a limit stops it, passes row 6
  pub stopped_goes : (l : ℕ) → Goes problem asked (stopped_of problem asked l (start_of problem))
  stopped_goes l =
      let z = start-sound problem asked a.within a.at-least in
      let j = to-judged (judge_of problem asked) asked l (start_of problem) z.order in
      let t = to-stand (judge_of problem asked) asked l (start_of problem) (record { lower = z.lower; upper = z.upper }) in
      record {
        from = lower-from j;
        order = j.order;
        to = upper-to j;
        lower = held-lower problem asked z.order j;
        upper = held-upper problem asked z.order j;
        below = t.lower;
        above = t.upper;
        count = Nat.le_trans (to-under (judge_of problem asked) asked l (start_of problem) z.order) (last-ends problem asked).count;
      }

  pub stopped-begins : (l : ℕ) → begun_of problem asked (Stopped (stopped_of problem asked l (start_of problem))) ≡ Ok (stopped_of problem asked l (start_of problem))
  unfolding begun_of begun_by
  stopped-begins l =
      let b = stopped_of problem asked l (start_of problem) in
      ap (λ (c : Result Unit Amiss). begun_by c b) (goes_back problem asked b (stopped_goes l))

  -- and row 1
  pub stopped-finite : (l : ℕ) → all_meet (times_input (Stopped (stopped_of problem asked l (start_of problem)))) ≡ true
  stopped-finite l =
      let b = stopped_of problem asked l (start_of problem) in
      let h = goes-sound (stopped_goes l) in
      meet-both (time_input Lo b.below) (time_input Hi b.above)
      ∙ both (all_meet (time_input Lo b.below)) _ (carried Lo b.below (time_finite_lem b.below h.below_in)) (carried Hi b.above (time_finite_lem b.above h.above_in))
    where
      carried : (name : Name) (j : Judgement) → time_finite j ≡ true → all_meet (time_input name j) ≡ true
      carried name (Low t) h = both _ true h refl
      carried name (High t) h = both _ true h refl
      carried name Under h = refl
      carried name Over h = refl
