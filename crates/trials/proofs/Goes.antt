-- A bracket that passes row 6 lies on its problem's grid and holds what stands at its own ends; trials can go on from it, and from
-- the start. Assumes nothing.
use Rattle.reason.specs.declared.Amiss.{Amiss}
use Rattle.std.specs.Prelude.{Ok, Result, Err}
use Prim.Native.Nat.{ℕ, ◌+◌, ◌^◌, ◌≤◌, ◌<◌}
use native.Mathlib.Omega.{arith}
use native.Mathlib.Nat as Nat
use mathlib.Core.Path.{◌≡◌, refl, sym, ap, ◌∙◌, subst}
use mathlib.Core.Bool.{true}
use borrow.Author.Tests.{leb-true, le-leb}
use lib.Dec.{leb, lit≤}
use lib.Signed.{lt_z, le_z, mag, ◌<ℤ◌, ◌≤ℤ◌, lt_z_yes, le_z_yes}
use lib.Ieee.{Float}
use lib.Ieee.Bits.{is_true}
use Rattle.facts.proofs.Truth.{and_0, and-1, both, of-true}
use Rattle.facts.proofs.Wholes.{zero_one}
use Rattle.iterator.specs.Rule.{width_of}
use Rattle.iterator.specs.Same.{same_as}
use Rattle.iterator.specs.Single.{in_grid, is_below, is_above}
use Rattle.iterator.specs.declared.Bracket.{Bracket}
use Rattle.iterator.specs.declared.Beginning.{Beginning}
use Rattle.iterator.specs.declared.Beginning.TheVariants.{Start, Stopped}
use Rattle.iterator.proofs.Whole.{lt-le, le_trans}
use Rattle.iterator.proofs.Sames.{same-is, same_self}
use Rattle.problem.specs.Problems.{start_of, held_of, most_of}
use Rattle.problem.specs.Held.{on_grid, end_tests, checked_of}
use Rattle.problem.specs.declared.Problem.{Problem}
use Rattle.problem.specs.declared.Problem.TheVariants.{Kepler, Lambert}
use Rattle.problem.proofs.Checks.{fine-met, met-fine}
use Rattle.problem.proofs.Starts.{start-few}
use Rattle.trials.specs.Ended.{begun_by, begun_of}
use Rattle.trials.proofs.Standing.{Standing, standing-in, standing-grid}

-- what row 6 lets through
pub record Goes (problem : Problem) (asked : Float) (b : Bracket) : Type 0 where
  pub from : (start_of problem).lo ≤ℤ b.lo
  pub order : b.lo <ℤ b.hi
  pub to : b.hi ≤ℤ (start_of problem).hi
  pub lower : b.below ≡ held_of problem asked b.lo
  pub upper : b.above ≡ held_of problem asked b.hi
  pub below : is_below b.below ≡ true
  pub above : is_above b.above ≡ true
  pub count : b.count ≤ most_of problem

pub goes : (problem : Problem) (asked : Float) (b : Bracket) → checked_of problem asked b ≡ Ok tt → Goes problem asked b
unfolding on_grid
goes problem asked b e =
    let h = (fine-met (Ok tt) (end_tests problem asked b) e).1 in
    let h1 = and-1 (on_grid problem b.lo) _ h in
    let h2 = and-1 (on_grid problem b.hi) _ h1 in
    let h3 = and-1 (lt_z b.lo b.hi) _ h2 in
    let h4 = and-1 (same_as (held_of problem asked b.lo) b.below) _ h3 in
    let h5 = and-1 (same_as (held_of problem asked b.hi) b.above) _ h4 in
    let h6 = and-1 (is_below b.below) _ h5 in
    record {
      from = le_z_yes (of-true (and_0 (le_z (start_of problem).lo b.lo) _ (and_0 (on_grid problem b.lo) _ h)));
      order = lt_z_yes (of-true (and_0 (lt_z b.lo b.hi) _ h2));
      to = le_z_yes (of-true (and-1 (le_z (start_of problem).lo b.hi) _ (and_0 (on_grid problem b.hi) _ h1)));
      lower = sym (same-is _ _ (and_0 (same_as (held_of problem asked b.lo) b.below) _ h3));
      upper = sym (same-is _ _ (and_0 (same_as (held_of problem asked b.hi) b.above) _ h4));
      below = and_0 (is_below b.below) _ h5;
      above = and_0 (is_above b.above) _ h6;
      count = leb-true b.count (most_of problem) (and_0 (leb b.count (most_of problem)) true (and-1 (is_above b.above) _ h6));
    }

-- and the other way
pub goes_back : (problem : Problem) (asked : Float) (b : Bracket) → Goes problem asked b → checked_of problem asked b ≡ Ok tt
unfolding on_grid
goes_back problem asked b h =
    met-fine (end_tests problem asked b)
    (both (on_grid problem b.lo) _
    (both (le_z (start_of problem).lo b.lo) _ (is_true _ h.from.le) (is_true _ (le_trans (lt-le h.order) h.to).le))
    (both (on_grid problem b.hi) _
    (both (le_z (start_of problem).lo b.hi) _ (is_true _ (le_trans h.from (lt-le h.order)).le) (is_true _ h.to.le))
    (both (lt_z b.lo b.hi) _ (is_true _ h.order.lt)
    (both (same_as (held_of problem asked b.lo) b.below) _
    (ap (same_as (held_of problem asked b.lo)) h.lower ∙ same_self (held_of problem asked b.lo))
    (both (same_as (held_of problem asked b.hi) b.above) _
    (ap (same_as (held_of problem asked b.hi)) h.upper ∙ same_self (held_of problem asked b.hi))
    (both (is_below b.below) _ h.below
    (both (is_above b.above) _ h.above
    (both (leb b.count (most_of problem)) true (le-leb b.count (most_of problem) h.count) refl))))))))

-- ---- what the loop needs
start-stands : (problem : Problem) → Standing (start_of problem)
start-stands (Kepler m) = record { from = le_z_yes tt; order = lt_z_yes tt; to = le_z_yes tt; lower = refl; upper = refl }
start-stands (Lambert d) = record { from = le_z_yes tt; order = lt_z_yes tt; to = le_z_yes tt; lower = refl; upper = refl }

goes-stands : {problem : Problem} {asked : Float} {b : Bracket} → Goes problem asked b → Standing b
goes-stands {problem} h =
    let z = start-stands problem in
    record { from = le_trans z.from h.from; order = h.order; to = le_trans h.to z.to; lower = h.below; upper = h.above }

goes-few : {problem : Problem} {asked : Float} {b : Bracket} → Goes problem asked b → b.count + width_of b.lo b.hi < 2 ^ 64
goes-few {problem} {asked} {b} h = few b.count (mag b.lo) (width_of b.lo b.hi) (Nat.le_trans h.count (most problem)) (standing-grid (goes-stands h)).room
  where
    most : (problem : Problem) → most_of problem ≤ 74
    most (Kepler m) = lit≤ tt
    most (Lambert d) = lit≤ tt

    few : (c m w : ℕ) → c ≤ 74 → m + w ≤ 2 ^ 39 → c + w < 2 ^ 64
    few c m w h k = omega arith

-- as the loop asks for it
abbrev pub Begins : Bracket → Type 0
Begins s =
    (in_grid s.lo s.hi ≡ true) × ((is_below s.below ≡ true) × ((is_above s.above ≡ true) × (s.count + width_of s.lo s.hi < 2 ^ 64)))

begins : {s : Bracket} → Standing s → s.count + width_of s.lo s.hi < 2 ^ 64 → Begins s
begins h f = (standing-in h, (h.lower, (h.upper, f)))

pub begun-begins : (problem : Problem) (asked : Float) (g : Beginning) (s : Bracket) → begun_of problem asked g ≡ Ok s → Begins s
unfolding begun_of begun_by
begun-begins problem asked Start s e =
    let i : start_of problem ≡ s = cc in
    subst Begins i (begins (start-stands problem) (start-few problem))
begun-begins problem asked (Stopped b) s e = go (checked_of problem asked b) refl e
  where
    go : (c : Result Unit Amiss) → checked_of problem asked b ≡ c → begun_by c b ≡ Ok s → Begins s
    go (Ok tt) t e =
        let i : b ≡ s = cc in
        let h = goes problem asked b t in
        subst Begins i (begins (goes-stands h) (goes-few h))
    go (Err w) t e = let z : ◌≡◌ {A = ℕ} 0 1 = cc in absurd (zero_one z)
