-- The transfer under a limit: what holds of the advance, with 52 for 74. Assumes nothing.
use Rattle.std.specs.Prelude.{Err, Ok, Result}
use Rattle.reason.specs.declared.Amiss.{Amiss}
use Prim.Native.Nat.{ℕ, ◌≤◌}
use native.Mathlib.Omega.{arith}
use native.Mathlib.Nat.{le_of_lt}
use mathlib.Core.Path.{◌≡◌, refl, sym, ap, ◌∙◌, subst}
use mathlib.Core.Bool.{Bool, true, false}
use borrow.Author.Tests.{ltb-true, ltb-false}
use lib.Dec.{ltb, lit≤}
use lib.Ieee.{Float}
use Rattle.facts.proofs.Wholes.{zero_one}
use Rattle.vector.specs.declared.Vector.{Vector}
use Rattle.table.specs.Tests.{Entry, first_failing, all_meet, passes}
use Rattle.table.proofs.Laws.{one-row}
use Rattle.iterator.specs.declared.Bracket.{Bracket}
use Rattle.lambert.specs.declared.Way.{Way}
use Rattle.lambert.specs.declared.Transfer.{Transfer}
use Rattle.lambert.specs.Lambert.{transfer_of, lambert_tests, velocity_at, result_row}
use Rattle.problem.specs.Problems.{start_of, stopped_of}
use Rattle.problem.specs.declared.Problem.TheVariants.{Lambert}
use Rattle.trials.specs.Ended.{begun_of, ended_from}
use Rattle.trials.specs.Carried.{times_input}
use Rattle.solve.specs.Ahead.{lambert_ahead}
use Rattle.solve.specs.Answers.{Transferred, outcome_to}
use Rattle.solve.specs.Answers.{transferred_at, transferred_as, transferred_by, transfer_velocity_of, transferred_end, transfer_velocity_to, transferred_number}
use Rattle.solve.specs.declared.Solution.{Solution}
use Rattle.solve.specs.declared.Outcome.{Outcome}
use Rattle.solve.specs.declared.Outcome.TheVariants as O
use Rattle.iterator.specs.declared.Beginning.{Beginning}
use Rattle.iterator.specs.declared.Beginning.TheVariants.{Start, Stopped}
use Rattle.solve.specs.declared.Transferred.TheVariants as Tr
use Rattle.solve.proofs.Parts.{lambert-start, lambert-whole, lambert-among}
use Rattle.solve.proofs.Asked.{lambert-asked}
use Rattle.solve.proofs.Beginnings.{stopped-finite, stopped-begins}
use Rattle.solve.proofs.Numbers.{moved-number}
use Rattle.solve.proofs.Limited.{not-six, outcome-free, outcome-raised, outcome-goes-on, handed, never-stopped}

moved_by : (r : Result Unit Entry) (v : Vector) (x : Solution) (b : Bracket) → transferred_at r v x ≡ Tr.NotFinished b → ⊥
unfolding transferred_at
moved_by (Ok tt) v x b e = let z : ◌≡◌ {A = ℕ} 0 1 = cc in zero_one z
moved_by (Err f) v x b e = let z : ◌≡◌ {A = ℕ} 0 1 = cc in zero_one z

moved_at : (d : Transfer) (b : Bracket) (o : Outcome) → transferred_as d o ≡ Tr.NotFinished b → o ≡ O.NotFinished b
unfolding transferred_as
moved_at d b (O.Met x) e = absurd (moved_by (first_failing (result_row (velocity_at d x.n))) (velocity_at d x.n) x b e)
moved_at d b O.TooLong e = let z : ◌≡◌ {A = ℕ} 0 1 = cc in absurd (zero_one z)
moved_at d b O.TooShort e = let z : ◌≡◌ {A = ℕ} 0 1 = cc in absurd (zero_one z)
moved_at d b (O.NotFinished c) e = let i : c ≡ b = cc in ap O.NotFinished i

moved-not-six : (d : Transfer) (o : Outcome) → transferred_number (transferred_as d o) ≡ 6 → ⊥
unfolding transferred_number transferred_as
moved-not-six d (O.Met x) e =
    let r = first_failing (result_row (velocity_at d x.n)) in
    not-six (passes r) (sym (moved-number (velocity_at d x.n) x r (one-row 9 (result_row (velocity_at d x.n)) refl)) ∙ e)
moved-not-six d O.TooLong e = omega arith
moved-not-six d O.TooShort e = omega arith
moved-not-six d (O.NotFinished c) e = omega arith

module _ (mu : Float) (first second : Vector) (way : Way) (t : Float) where
  abbrev d : Transfer
  d = transfer_of mu first second way

  abbrev start : Bracket
  start = start_of (Lambert d)

  abbrev ahead : Beginning → Result Unit Entry
  ahead g = first_failing (lambert_ahead mu first second way t d g)

  abbrev by : Result Unit Entry → Result Bracket Amiss → ℕ → Transferred
  by p v limit = transferred_end (ended_from p v (Ok tt) (Lambert d) t limit) d t

  abbrev ended : ℕ → Bracket → Transferred
  ended limit b = transferred_as d (outcome_to (Lambert d) t t limit b)

  pub transfer-free : (limit : ℕ) → 52 ≤ limit → transfer_velocity_to mu first second way t limit Start ≡ transfer_velocity_of mu first second way t
  unfolding transferred_end ended_from transferred_by begun_of
  transfer-free limit k = ap (λ (p : Result Unit Entry). by p (Ok start) limit) (lambert-start mu first second way t d) ∙ go (first_failing (lambert_tests mu first second way t d))
    where
      go : (p : Result Unit Entry) → by p (Ok start) limit ≡ transferred_by p d t
      go (Err f) = refl
      go (Ok tt) = ap (transferred_as d) (outcome-free (Lambert d) t t limit k)

  pub transfer-never : (limit : ℕ) (b : Bracket) → 52 ≤ limit → transfer_velocity_to mu first second way t limit Start ≡ Tr.NotFinished b → ⊥
  unfolding transferred_by
  transfer-never limit b k e = go (first_failing (lambert_tests mu first second way t d)) (sym (transfer-free limit k) ∙ e)
    where
      go : (p : Result Unit Entry) → transferred_by p d t ≡ Tr.NotFinished b → ⊥
      go (Ok tt) e = never-stopped (Lambert d) t t b (moved_at d b _ e)
      go (Err f) e = let z : ◌≡◌ {A = ℕ} 0 1 = cc in zero_one z

  pub transfer-raised : (l n : ℕ) (g : Beginning) → l ≤ n → (transferred_number (transfer_velocity_to mu first second way t l g) ≡ 29 → ⊥)
      → transfer_velocity_to mu first second way t n g ≡ transfer_velocity_to mu first second way t l g
  unfolding transferred_end ended_from transferred_number transferred_as
  transfer-raised l n g k h = go (ahead g) (begun_of (Lambert d) t g) h
    where
      go : (p : Result Unit Entry) (v : Result Bracket Amiss) → (transferred_number (by p v l) ≡ 29 → ⊥) → by p v n ≡ by p v l
      go (Err f) v h = refl
      go (Ok tt) (Err a) h = refl
      go (Ok tt) (Ok b) h = ap (transferred_as d) (outcome-raised (Lambert d) t t l n b k (λ c e. h (ap (λ (o : Outcome). transferred_number (transferred_as d o)) e)))

  pub transfer-finished : (l : ℕ) → (transferred_number (transfer_velocity_to mu first second way t l Start) ≡ 29 → ⊥)
      → transfer_velocity_to mu first second way t l Start ≡ transfer_velocity_of mu first second way t
  transfer-finished l h = go (ltb l 52) refl
    where
      go : (b : Bool) → ltb l 52 ≡ b → transfer_velocity_to mu first second way t l Start ≡ transfer_velocity_of mu first second way t
      go true e = sym (transfer-raised l 52 Start (le_of_lt (ltb-true l 52 e)) h) ∙ transfer-free 52 (lit≤ tt)
      go false e = transfer-free l (ltb-false l 52 e)

  record Handed (l : ℕ) (b : Bracket) : Type 0 where
    stopped : stopped_of (Lambert d) t l start ≡ b
    tested : ahead Start ≡ Ok tt
    again : ahead (Stopped b) ≡ Ok tt
    begins : begun_of (Lambert d) t (Stopped b) ≡ Ok b

  handed_out : (l : ℕ) (b : Bracket) → transfer_velocity_to mu first second way t l Start ≡ Tr.NotFinished b → Handed l b
  unfolding transferred_end ended_from begun_of
  handed_out l b e = go (ahead Start) refl e
    where
      go : (p : Result Unit Entry) → ahead Start ≡ p → by p (Ok start) l ≡ Tr.NotFinished b → Handed l b
      go (Err f) i e = let z : ◌≡◌ {A = ℕ} 0 1 = cc in absurd (zero_one z)
      go (Ok tt) i e =
          let w = lambert-whole mu first second way t d Start i in
          let a = lambert-asked mu first second way t d w in
          let c = handed t t (stopped_of (Lambert d) t l start) b (moved_at d b _ e) in
          record {
            stopped = c;
            tested = i;
            again = lambert-among mu first second way t d (Stopped b) (subst (λ (r : Bracket). all_meet (times_input (Stopped r)) ≡ true) c (stopped-finite (Lambert d) t a l)) w;
            begins = subst (λ (r : Bracket). begun_of (Lambert d) t (Stopped r) ≡ Ok r) c (stopped-begins (Lambert d) t a l);
          }

  pub transfer-taken-up : (l n : ℕ) (b : Bracket) → transfer_velocity_to mu first second way t l Start ≡ Tr.NotFinished b → transfer_velocity_to mu first second way t n (Stopped b) ≡ ended n b
  unfolding transferred_end ended_from
  transfer-taken-up l n b e =
      let h = handed_out l b e in
      ap (λ (p : Result Unit Entry). by p (begun_of (Lambert d) t (Stopped b)) n) h.again ∙ ap (λ (v : Result Bracket Amiss). by (Ok tt) v n) h.begins

  pub transfer-not-six : (l n : ℕ) (b : Bracket) → transfer_velocity_to mu first second way t l Start ≡ Tr.NotFinished b
      → transferred_number (transfer_velocity_to mu first second way t n (Stopped b)) ≡ 6 → ⊥
  transfer-not-six l n b e k = moved-not-six d (outcome_to (Lambert d) t t n b) (ap transferred_number (sym (transfer-taken-up l n b e)) ∙ k)

  pub transfer-goes-on : (l n : ℕ) (b : Bracket) → l ≤ n → transfer_velocity_to mu first second way t l Start ≡ Tr.NotFinished b
      → transfer_velocity_to mu first second way t n (Stopped b) ≡ transfer_velocity_to mu first second way t n Start
  unfolding transferred_end ended_from begun_of
  transfer-goes-on l n b k e =
      let h = handed_out l b e in
      transfer-taken-up l n b e
      ∙ ap (ended n) (sym h.stopped)
      ∙ ap (transferred_as d) (outcome-goes-on (Lambert d) t t l n start k)
      ∙ sym (ap (λ (p : Result Unit Entry). by p (Ok start) n) h.tested)
