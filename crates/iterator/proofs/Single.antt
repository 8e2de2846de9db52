-- The trial of a run: from a sound start, and with a judge whose times are judged by `judged_of`, it is never refused,
-- its points are the run's own, and none is left exactly at neighbours. Assumes nothing.
use Rattle.refusal.specs.declared.Refusal.TheVariants as Refusal
use Prim.Native.Nat.{ℕ, ◌+◌, ◌^◌, ◌<◌}
use mathlib.Core.Path.{◌≡◌, refl}
use mathlib.Core.Bool.{Bool, true, false, cond, not}
use lib.Dec.{ltb}
use lib.IntN.{ℤ, pos, neg_ℤ}
use lib.Signed.{lt_z, le_z, ◌<ℤ◌, ◌≤ℤ◌, lt_z_yes, le_z_yes}
use lib.Ieee.{Float, nan, inf, fin, below, lt, le, eq, of_bits}
use lib.Ieee.Bits.{is_true}
use Rattle.facts.proofs.Truth.{and_0, and-1, both, of-true}
use Rattle.real.proofs.Order.{above-it}
use Rattle.real.specs.F64.{◌≤ᶠ◌, finite}
use Rattle.iterator.specs.Judged.{in_time, judged_of}
use Rattle.iterator.specs.Rule.{Grid, width_of, point_of}
use Rattle.iterator.specs.Run.{narrowed, next_point, next, more, run, run_to}
use Rattle.iterator.specs.Single.{time_finite, all_times_finite, in_grid, time_in_time, all_in_time, is_below, is_above, agrees, ends_agree, sound_of, next_trial_of, single_trial_of, tried_number, more_left}
use Rattle.iterator.specs.declared.Judgement.{Judgement}
use Rattle.iterator.specs.declared.Judgement.TheVariants.{Low, High, Under, Over}
use Rattle.iterator.specs.declared.Bracket.{Bracket}
use Rattle.iterator.specs.declared.Tried.TheVariants.{Point, NoneLeft, Refused}
use Rattle.iterator.proofs.Whole.{lt-le, le_trans}
use Rattle.iterator.proofs.Grids.{in_grid_lem}
use Rattle.iterator.proofs.Trials.{inside}
use Rattle.iterator.proofs.Runs.{run-keeps}
use Rattle.iterator.proofs.Limits.{to-keeps}

-- what a judge may answer: under, over, or a computed time judged
pub data Told (asked : Float) : Judgement → Type 0 where
  under : Told asked Under
  over : Told asked Over
  timed : (t : Float) → Told asked (judged_of asked t)

-- every condition of the single trial
pub record Sound (asked : Float) (s : Bracket) : Type 0 where
  pub from : neg_ℤ (pos (2 ^ 37)) ≤ℤ s.lo
  pub order : s.lo <ℤ s.hi
  pub to : s.hi ≤ℤ pos (2 ^ 37)
  pub asked_in : in_time asked ≡ true
  pub below_in : time_in_time s.below ≡ true
  pub above_in : time_in_time s.above ≡ true
  pub lower : is_below s.below ≡ true
  pub upper : is_above s.above ≡ true
  pub below-agrees : agrees asked s.below ≡ true
  pub above-agrees : agrees asked s.above ≡ true

in-grid-is : {asked : Float} {s : Bracket} → Sound asked s → in_grid s.lo s.hi ≡ true
unfolding in_grid
in-grid-is {asked} {s} h = both (le_z (neg_ℤ (pos (2 ^ 37))) s.lo) _ (is_true _ h.from.le) (both (lt_z s.lo s.hi) _ (is_true _ h.order.lt) (is_true _ h.to.le))

pub sound-grid : {asked : Float} {s : Bracket} → Sound asked s → Grid s.lo s.hi
sound-grid {asked} {s} h = in_grid_lem s.lo s.hi (in-grid-is h)

pub sound-is : {asked : Float} {s : Bracket} → Sound asked s → sound_of asked s.lo s.hi s.below s.above ≡ true
unfolding sound_of all_in_time ends_agree
sound-is {asked} {s} h =
    both (in_grid s.lo s.hi) _ (in-grid-is h)
    (both (all_in_time asked s.below s.above) _ (both (in_time asked) _ h.asked_in (both (time_in_time s.below) _ h.below_in h.above_in))
    (both (is_below s.below) _ h.lower (both (is_above s.above) _ h.upper (both (agrees asked s.below) _ h.below-agrees h.above-agrees))))

pub sound_of_lem : (asked : Float) (s : Bracket) → sound_of asked s.lo s.hi s.below s.above ≡ true → Sound asked s
unfolding sound_of in_grid all_in_time ends_agree
sound_of_lem asked s e =
    let g = and_0 (in_grid s.lo s.hi) _ e in
    let f = and-1 (in_grid s.lo s.hi) _ e in
    let a = and_0 (all_in_time asked s.below s.above) _ f in
    let b = and-1 (all_in_time asked s.below s.above) _ f in
    let g1 = and-1 (le_z (neg_ℤ (pos (2 ^ 37))) s.lo) _ g in
    let a1 = and-1 (in_time asked) _ a in
    let b1 = and-1 (is_below s.below) _ b in
    let b2 = and-1 (is_above s.above) _ b1 in
    record {
      from = le_z_yes (of-true (and_0 (le_z (neg_ℤ (pos (2 ^ 37))) s.lo) _ g));
      order = lt_z_yes (of-true (and_0 (lt_z s.lo s.hi) _ g1));
      to = le_z_yes (of-true (and-1 (lt_z s.lo s.hi) _ g1));
      asked_in = and_0 (in_time asked) _ a;
      below_in = and_0 (time_in_time s.below) _ a1;
      above_in = and-1 (time_in_time s.below) _ a1;
      lower = and_0 (is_below s.below) _ b;
      upper = and_0 (is_above s.above) _ b1;
      below-agrees = and_0 (agrees asked s.below) _ b2;
      above-agrees = and-1 (agrees asked s.below) _ b2;
    }

-- ---- a time within range is finite
pub in-time-finite : (t : Float) → in_time t ≡ true → finite t ≡ true
unfolding in_time le lt eq of_bits
in-time-finite nan h = h
in-time-finite (inf true) h = h
in-time-finite (inf false) h = h
in-time-finite (fin s m e) h = refl

pub time_finite_lem : (j : Judgement) → time_in_time j ≡ true → time_finite j ≡ true
time_finite_lem (Low t) h = in-time-finite t h
time_finite_lem (High t) h = in-time-finite t h
time_finite_lem Under h = refl
time_finite_lem Over h = refl

finite-is : {asked : Float} {s : Bracket} → Sound asked s → all_times_finite asked s.below s.above ≡ true
unfolding all_times_finite
finite-is {asked} {s} h =
    both (finite asked) _ (in-time-finite asked h.asked_in) (both (time_finite s.below) _ (time_finite_lem s.below h.below_in) (time_finite_lem s.above h.above_in))

-- ---- what is told agrees with its judgement
pub record Agreeing (asked : Float) (j : Judgement) : Type 0 where
  pub time_in_lem : time_in_time j ≡ true
  pub agree : agrees asked j ≡ true

judged-agrees : (asked t : Float) → in_time asked ≡ true → Agreeing asked (judged_of asked t)
unfolding judged_of
judged-agrees asked t a = go (in_time t) refl
  where
    sided : (u : Bool) → (t ≤ᶠ asked) ≡ u → in_time t ≡ true → Agreeing asked (cond u (Low t) (High t))
    sided true e h = record { time_in_lem = h; agree = e }
    sided false e h = record { time_in_lem = h; agree = above-it t asked (in-time-finite t h) (in-time-finite asked a) e }

    go : (u : Bool) → in_time t ≡ u → Agreeing asked (cond u (cond (t ≤ᶠ asked) (Low t) (High t)) Over)
    go true e = sided (t ≤ᶠ asked) refl e
    go false e = record { time_in_lem = refl; agree = refl }

pub told-agrees : {asked : Float} {j : Judgement} → Told asked j → in_time asked ≡ true → Agreeing asked j
told-agrees under a = record { time_in_lem = refl; agree = refl }
told-agrees over a = record { time_in_lem = refl; agree = refl }
told-agrees {asked} (timed t) a = judged-agrees asked t a

-- ---- a trial keeps a bracket sound
narrowed-sound : (asked : Float) (s : Bracket) (n : ℤ) (j : Judgement) → Sound asked s → s.lo <ℤ n → n <ℤ s.hi → Agreeing asked j → Sound asked (narrowed s n j)
narrowed-sound asked s n (Low t) h l k a =
    record {
      from = le_trans h.from (lt-le l);
      order = k;
      to = h.to;
      asked_in = h.asked_in;
      below_in = a.time_in_lem;
      above_in = h.above_in;
      lower = refl;
      upper = h.upper;
      below-agrees = a.agree;
      above-agrees = h.above-agrees;
    }
narrowed-sound asked s n Under h l k a =
    record {
      from = le_trans h.from (lt-le l);
      order = k;
      to = h.to;
      asked_in = h.asked_in;
      below_in = refl;
      above_in = h.above_in;
      lower = refl;
      upper = h.upper;
      below-agrees = refl;
      above-agrees = h.above-agrees;
    }
narrowed-sound asked s n (High t) h l k a =
    record {
      from = h.from;
      order = l;
      to = le_trans (lt-le k) h.to;
      asked_in = h.asked_in;
      below_in = h.below_in;
      above_in = a.time_in_lem;
      lower = h.lower;
      upper = refl;
      below-agrees = h.below-agrees;
      above-agrees = a.agree;
    }
narrowed-sound asked s n Over h l k a =
    record {
      from = h.from;
      order = l;
      to = le_trans (lt-le k) h.to;
      asked_in = h.asked_in;
      below_in = h.below_in;
      above_in = refl;
      lower = h.lower;
      upper = refl;
      below-agrees = h.below-agrees;
      above-agrees = refl;
    }

module _ (judge : ℤ → Judgement) (asked : Float) (told : (n : ℤ) → Told asked (judge n)) where
  pub next-sound : (s : Bracket) → 1 < width_of s.lo s.hi → Sound asked s → Sound asked (next judge asked s)
  next-sound s w h =
      let i = inside asked s h.order w in
      narrowed-sound asked s (next_point asked s) (judge (next_point asked s)) h i.0 i.1 (told-agrees (told (next_point asked s)) h.asked_in)

  pub run_sound : (s : Bracket) → Sound asked s → Sound asked (run judge asked s)
  run_sound s h = run-keeps judge asked (Sound asked) next-sound s h

  pub to-sound : (l : ℕ) (s : Bracket) → Sound asked s → Sound asked (run_to judge asked l s)
  to-sound l s h = to-keeps judge asked (Sound asked) next-sound l s h

-- ---- the single trial on a sound bracket of a run: its next point, or none left at neighbours; so never a refusal
pub trial-is : {asked : Float} {s : Bracket} → Sound asked s
    → single_trial_of asked s.lo s.hi s.below s.above (s.count + 1) ≡ cond (more s) (Point (next_point asked s)) NoneLeft
unfolding single_trial_of next_trial_of
trial-is {asked} {s} h = simp (finite-is h, sound-is h)

-- and a trial is left exactly where the run has more
pub more-is : {asked : Float} {s : Bracket} → Sound asked s → more_left s.lo s.hi ≡ more s
unfolding more_left
more-is h = simp (in-grid-is h)

-- ---- the single trial's number: 1 for a time that is not finite, then 6 unless the ends are sound
pub trial-number : (asked : Float) (lo hi : ℤ) (below above : Judgement) (k : ℕ)
    → tried_number (single_trial_of asked lo hi below above k) ≡ cond (not (all_times_finite asked below above)) 1 (cond (not (sound_of asked lo hi below above)) 6 0)
unfolding single_trial_of tried_number next_trial_of
trial-number asked lo hi below above k = go (all_times_finite asked below above) (sound_of asked lo hi below above) (ltb 1 (width_of lo hi))
  where
    go : (f s w : Bool)
        → tried_number (cond (not f) (Refused Refusal.NotFinite) (cond (not s) (Refused Refusal.DerivedOutOfRange) (cond w (Point (point_of asked lo hi below above k)) NoneLeft))) ≡ cond (not f) 1 (cond (not s) 6 0)
    go false s w = refl
    go true false w = refl
    go true true true = refl
    go true true false = refl
