-- Trials under a limit, once for Kepler and Lambert: raising the limit never alters what they come to but 'not finished'; from the start
-- a limit of 74 and 52 or more is no limit; and stopped and continued they are one run. Assumes nothing.
use Prim.Native.Nat.{ℕ, ◌≤◌, ◌<◌, zero-le}
use native.Mathlib.Omega.{arith}
use mathlib.Core.Path.{◌≡◌, refl, sym, ap, ◌∙◌}
use mathlib.Core.Bool.{Bool, true, false, cond}
use borrow.Author.Tests.{ltb-false, lt-ltb, le-ltb}
use lib.Dec.{lit≤}
use lib.Signed.{lt_z_yes}
use lib.Ieee.{Float}
use Rattle.facts.proofs.Wholes.{zero_one}
use Rattle.iterator.specs.Rule.{width_of}
use Rattle.iterator.specs.Run.{more, Ran}
use Rattle.iterator.specs.declared.Bracket.{Bracket}
use Rattle.iterator.proofs.Limits.{raised, goes_on, not-enough, no_limit_lem, run_ends}
use Rattle.iterator.specs.declared.Judgement.{Judgement}
use Rattle.iterator.specs.declared.Judgement.TheVariants.{Low, High, Under, Over}
use Rattle.problem.specs.Problems.{judge_of, start_of, last_of, stopped_of, most_of}
use Rattle.problem.specs.declared.Problem.{Problem}
use Rattle.problem.specs.declared.Problem.TheVariants.{Kepler, Lambert}
use Rattle.solve.specs.Answers.{outcome_by, outcome_at, outcome_of, concluded_of, outcome_to}
use Rattle.solve.specs.declared.Outcome.TheVariants as O

-- ---- the trials

pub start-free : (problem : Problem) (asked : Float) (limit : ℕ) → most_of problem ≤ limit → stopped_of problem asked limit (start_of problem) ≡ last_of problem asked
start-free (Kepler m) asked limit k = ap (λ (r : Ran). r.ended) (no_limit_lem (judge_of (Kepler m) asked) asked 37 limit (start_of (Kepler m)) (lt_z_yes tt) (lit≤ tt) k)
start-free (Lambert d) asked limit k = ap (λ (r : Ran). r.ended) (no_limit_lem (judge_of (Lambert d) asked) asked 26 limit (start_of (Lambert d)) (lt_z_yes tt) (lit≤ tt) k)

pub last_done : (problem : Problem) (asked : Float) → more (last_of problem asked) ≡ false
last_done (Kepler m) asked = le-ltb 1 _ (run_ends (judge_of (Kepler m) asked) asked (start_of (Kepler m)) (lt_z_yes tt))
last_done (Lambert d) asked = le-ltb 1 _ (run_ends (judge_of (Lambert d) asked) asked (start_of (Lambert d)) (lt_z_yes tt))

pub concluded : (size asked : Float) (s : Bracket) → more s ≡ false → concluded_of size asked s ≡ outcome_at size asked s
unfolding concluded_of
concluded size asked s e = ap (λ (b : Bool). cond b (O.NotFinished s) (outcome_at size asked s)) e

pub not-concluded : (size asked : Float) (s : Bracket) → more s ≡ true → concluded_of size asked s ≡ O.NotFinished s
unfolding concluded_of
not-concluded size asked s e = ap (λ (b : Bool). cond b (O.NotFinished s) (outcome_at size asked s)) e

-- from the start a limit of 74 and 52 or more is no limit
pub outcome-free : (problem : Problem) (size asked : Float) (limit : ℕ) → most_of problem ≤ limit → outcome_to problem size asked limit (start_of problem) ≡ outcome_of problem size asked
outcome-free problem size asked limit k =
    ap (concluded_of size asked) (start-free problem asked limit k) ∙ concluded size asked (last_of problem asked) (last_done problem asked)

-- from wherever the trials begin: a higher limit gives the same, or the lower one was not finished
pub outcome-raised : (problem : Problem) (size asked : Float) (l n : ℕ) (s : Bracket) → l ≤ n
    → ((b : Bracket) → outcome_to problem size asked l s ≡ O.NotFinished b → ⊥) → outcome_to problem size asked n s ≡ outcome_to problem size asked l s
outcome-raised problem size asked l n s k h = go (more (stopped_of problem asked l s)) refl
  where
    go : (t : Bool) → more (stopped_of problem asked l s) ≡ t → outcome_to problem size asked n s ≡ outcome_to problem size asked l s
    go true e = absurd (h (stopped_of problem asked l s) (not-concluded size asked (stopped_of problem asked l s) e))
    go false e = ap (λ (r : Ran). concluded_of size asked r.ended) (raised (judge_of problem asked) asked l n s k (ltb-false 1 _ e))

-- stopped and continued, the trials are one run
pub outcome-goes-on : (problem : Problem) (size asked : Float) (l n : ℕ) (s : Bracket) → l ≤ n
    → outcome_to problem size asked n (stopped_of problem asked l s) ≡ outcome_to problem size asked n s
outcome-goes-on problem size asked l n s k = ap (concluded_of size asked) (goes_on (judge_of problem asked) asked l n s k)

-- what is handed out as not finished is where the limit stopped the trials
pub no-ending : (size asked : Float) (s b : Bracket) (x y : Judgement) → outcome_by size asked s x y ≡ O.NotFinished b → ⊥
unfolding outcome_by
no-ending size asked s b (Low t) (High u) e = let z : ◌≡◌ {A = ℕ} 0 1 = cc in zero_one z
no-ending size asked s b (Low t) (Low u) e = let z : ◌≡◌ {A = ℕ} 0 1 = cc in zero_one z
no-ending size asked s b (Low t) Under e = let z : ◌≡◌ {A = ℕ} 0 1 = cc in zero_one z
no-ending size asked s b (Low t) Over e = let z : ◌≡◌ {A = ℕ} 0 1 = cc in zero_one z
no-ending size asked s b (High t) y e = let z : ◌≡◌ {A = ℕ} 0 1 = cc in zero_one z
no-ending size asked s b Under y e = let z : ◌≡◌ {A = ℕ} 0 1 = cc in zero_one z
no-ending size asked s b Over y e = let z : ◌≡◌ {A = ℕ} 0 1 = cc in zero_one z

pub handed : (size asked : Float) (s b : Bracket) → concluded_of size asked s ≡ O.NotFinished b → s ≡ b
handed size asked s b e = go (more s) refl
  where
    go : (t : Bool) → more s ≡ t → s ≡ b
    go true k = let i : O.NotFinished s ≡ O.NotFinished b = sym (not-concluded size asked s k) ∙ e in cc
    go false k = absurd (no-ending size asked s b s.below s.above (sym (concluded size asked s k) ∙ e))

-- below what the rule needs it stops at the limit, with the count there
pub outcome-short : (problem : Problem) (size asked : Float) (limit : ℕ) → limit < (last_of problem asked).count
    → (outcome_to problem size asked limit (start_of problem) ≡ O.NotFinished (stopped_of problem asked limit (start_of problem))) × ((stopped_of problem asked limit (start_of problem)).count ≡ limit)
outcome-short problem size asked limit k =
    let r = stopped_of problem asked limit (start_of problem) in
    let h = short problem k in
    (not-concluded size asked r (lt-ltb 1 (width_of r.lo r.hi) h.0), h.1)
  where
    short : (problem : Problem) → limit < (last_of problem asked).count
        → (1 < width_of (stopped_of problem asked limit (start_of problem)).lo (stopped_of problem asked limit (start_of problem)).hi)
        × ((stopped_of problem asked limit (start_of problem)).count ≡ limit)
    short (Kepler m) k = not-enough (judge_of (Kepler m) asked) asked limit (start_of (Kepler m)) (lt_z_yes tt) zero-le k
    short (Lambert d) k = not-enough (judge_of (Lambert d) asked) asked limit (start_of (Lambert d)) (lt_z_yes tt) zero-le k

-- without a limit it is finished
pub never-stopped : (problem : Problem) (size asked : Float) (b : Bracket) → outcome_of problem size asked ≡ O.NotFinished b → ⊥
never-stopped problem size asked b e = no-ending size asked (last_of problem asked) b (last_of problem asked).below (last_of problem asked).above e

-- what trials come to has another number than 6
pub not-six : (b : Bool) → ◌≡◌ {A = ℕ} (cond b 0 9) 6 → ⊥
not-six true e = omega arith
not-six false e = omega arith
