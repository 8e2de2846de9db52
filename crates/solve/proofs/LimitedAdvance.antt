-- The advance under a limit: raising it never alters an orbit or a refusal other than 29; from the start a limit of 74 or more is none, so that
-- it is never 'not finished'; what was stopped and is continued from what it handed out, any number of times, ends as one solve does;
-- and such a continuation is never refused with 6. Assumes nothing.
use Rattle.std.specs.Prelude.{Err, Ok, Result}
use Rattle.reason.specs.declared.Amiss.{Amiss}
use Prim.Native.Nat.{ℕ, ◌≤◌}
use native.Mathlib.Omega.{arith}
use native.Mathlib.Nat.{le_of_lt}
use mathlib.Core.Path.{◌≡◌, refl, sym, ap, ◌∙◌, subst}
use mathlib.Core.Bool.{Bool, true, false}
use mathlib.Core.List.{◌++◌}
use borrow.Author.Tests.{ltb-true, ltb-false}
use lib.Dec.{ltb, lit≤}
use lib.Ieee.{Float}
use Rattle.facts.proofs.Wholes.{zero_one}
use Rattle.real.specs.F64.{size_of}
use Rattle.vector.specs.declared.State.{State}
use Rattle.table.specs.Tests.{Entry, first_failing, all_meet}
use Rattle.table.proofs.Laws.{all_met_lem, met-then}
use Rattle.iterator.specs.declared.Bracket.{Bracket}
use Rattle.kepler.specs.declared.Motion.{Motion}
use Rattle.kepler.specs.Kepler.{turned_of, input_row, range_rows, fall_row, kepler_tests, arrival_of}
use Rattle.problem.specs.Problems.{start_of, stopped_of}
use Rattle.problem.specs.declared.Problem.TheVariants.{Kepler}
use Rattle.trials.specs.Ended.{begun_of, ended_from}
use Rattle.trials.specs.Carried.{times_input}
use Rattle.solve.specs.Ahead.{kepler_ahead}
use Rattle.solve.specs.Ends.{motion_for, turns_for}
use Rattle.solve.specs.Answers.{Advanced, outcome_to, advanced_at, advanced_as, advanced_by, advance_of, advanced_end, advance_to, advanced_number}
use Rattle.solve.specs.declared.Solution.{Solution}
use Rattle.solve.specs.declared.Outcome.{Outcome}
use Rattle.solve.specs.declared.Outcome.TheVariants as O
use Rattle.iterator.specs.declared.Beginning.{Beginning}
use Rattle.iterator.specs.declared.Beginning.TheVariants.{Start, Stopped}
use Rattle.solve.specs.declared.Advanced.TheVariants as Ad
use Rattle.solve.proofs.Parts.{failed-then, kepler-whole, kepler-among}
use Rattle.solve.proofs.Asked.{rest-asked}
use Rattle.solve.proofs.Beginnings.{stopped-finite, stopped-begins}
use Rattle.solve.proofs.Numbers.{arrives, nine, found_number}
use Rattle.solve.proofs.Limited.{not-six, outcome-free, outcome-raised, outcome-goes-on, handed, never-stopped}

no_found : (t : Float) (w : ℕ) (x : Solution) (r : Result State Entry) (b : Bracket) → advanced_at t w x r ≡ Ad.NotFinished b → ⊥
unfolding advanced_at
no_found t w x (Ok s) b e = let z : ◌≡◌ {A = ℕ} 0 1 = cc in zero_one z
no_found t w x (Err f) b e = let z : ◌≡◌ {A = ℕ} 0 1 = cc in zero_one z

arrived-at : (m : Motion) (from : State) (t : Float) (w : ℕ) (b : Bracket) (o : Outcome) → advanced_as m from t w o ≡ Ad.NotFinished b → o ≡ O.NotFinished b
unfolding advanced_as
arrived-at m from t w b (O.Met x) e = absurd (no_found t w x (arrival_of m from x.n) b e)
arrived-at m from t w b O.TooLong e = let z : ◌≡◌ {A = ℕ} 0 1 = cc in absurd (zero_one z)
arrived-at m from t w b O.TooShort e = let z : ◌≡◌ {A = ℕ} 0 1 = cc in absurd (zero_one z)
arrived-at m from t w b (O.NotFinished c) e = let i : c ≡ b = cc in ap O.NotFinished i

arrived-not-six : (m : Motion) (from : State) (t : Float) (w : ℕ) (o : Outcome) → advanced_number (advanced_as m from t w o) ≡ 6 → ⊥
unfolding advanced_number advanced_as
arrived-not-six m from t w (O.Met x) e = not-six (arrives (arrival_of m from x.n)) (sym (found_number t w x (arrival_of m from x.n) (nine m from x.n)) ∙ e)
arrived-not-six m from t w O.TooLong e = omega arith
arrived-not-six m from t w O.TooShort e = omega arith
arrived-not-six m from t w (O.NotFinished c) e = omega arith

module _ (mu : Float) (s : State) (t : Float) where
  abbrev m : Motion
  m = motion_for mu s t

  abbrev rest : Float
  rest = (turns_for mu s t).rest

  abbrev start : Bracket
  start = start_of (Kepler m)

  abbrev ahead : Beginning → Result Unit Entry
  ahead g = first_failing (kepler_ahead mu s t m g)

  abbrev fall : Result Unit Entry
  fall = first_failing (fall_row mu s m.orbit.r1)

  abbrev by : Result Unit Entry → Result Bracket Amiss → Result Unit Entry → ℕ → Advanced
  by p v q limit = advanced_end (ended_from p v q (Kepler m) rest limit) m (turned_of t s) t (size_of t)

  abbrev ended : ℕ → Bracket → Advanced
  ended limit b = advanced_as m (turned_of t s) t (turns_for mu s t).turns (outcome_to (Kepler m) (size_of t) rest limit b)

  abbrev whole : Result Unit Entry → Advanced
  whole p = advanced_by p m (turned_of t s) t (size_of t)

  pub advance-free : (limit : ℕ) → 74 ≤ limit → advance_to mu s t limit Start ≡ advance_of mu s t
  unfolding advanced_end ended_from advanced_by begun_of
  advance-free limit k = go (ahead Start) fall refl refl
    where
      go : (p q : Result Unit Entry) → ahead Start ≡ p → fall ≡ q → by p (Ok start) q limit ≡ whole (first_failing (kepler_tests mu s t m))
      go (Err f) q e i = sym (ap whole (failed-then (input_row mu s t ++ range_rows mu s t m) (fall_row mu s m.orbit.r1) f e))
      go (Ok tt) (Err f) e i =
          sym (ap whole (met-then (input_row mu s t ++ range_rows mu s t m) (fall_row mu s m.orbit.r1) (all_met_lem (input_row mu s t ++ range_rows mu s t m) e) ∙ i))
      go (Ok u) (Ok tt) e i =
          ap (advanced_as m (turned_of t s) t (turns_for mu s t).turns) (outcome-free (Kepler m) (size_of t) rest limit k)
          ∙ sym (ap whole (kepler-whole mu s t m Start e i))

  -- so it is never 'not finished'
  pub advance-never : (limit : ℕ) (b : Bracket) → 74 ≤ limit → advance_to mu s t limit Start ≡ Ad.NotFinished b → ⊥
  unfolding advanced_by
  advance-never limit b k e = go (first_failing (kepler_tests mu s t m)) (sym (advance-free limit k) ∙ e)
    where
      go : (p : Result Unit Entry) → advanced_by p m (turned_of t s) t (size_of t) ≡ Ad.NotFinished b → ⊥
      go (Ok tt) e = never-stopped (Kepler m) (size_of t) rest b (arrived-at m (turned_of t s) t (turns_for mu s t).turns b _ e)
      go (Err f) e = let z : ◌≡◌ {A = ℕ} 0 1 = cc in zero_one z

  pub advance-raised : (l n : ℕ) (g : Beginning) → l ≤ n → (advanced_number (advance_to mu s t l g) ≡ 29 → ⊥) → advance_to mu s t n g ≡ advance_to mu s t l g
  unfolding advanced_end ended_from advanced_number advanced_as
  advance-raised l n g k h = go (ahead g) (begun_of (Kepler m) rest g) fall h
    where
      go : (p : Result Unit Entry) (v : Result Bracket Amiss) (q : Result Unit Entry) → (advanced_number (by p v q l) ≡ 29 → ⊥) → by p v q n ≡ by p v q l
      go (Err f) v q h = refl
      go (Ok tt) (Err a) q h = refl
      go (Ok tt) (Ok b) (Err f) h = refl
      go (Ok u) (Ok b) (Ok tt) h =
          ap (advanced_as m (turned_of t s) t (turns_for mu s t).turns)
          (outcome-raised (Kepler m) (size_of t) rest l n b k (λ c e. h (ap (λ (o : Outcome). advanced_number (advanced_as m (turned_of t s) t (turns_for mu s t).turns o)) e)))

  -- what is finished from the start is the advance without a limit: demand 3 is read for it
  pub advance-finished : (l : ℕ) → (advanced_number (advance_to mu s t l Start) ≡ 29 → ⊥) → advance_to mu s t l Start ≡ advance_of mu s t
  advance-finished l h = go (ltb l 74) refl
    where
      go : (b : Bool) → ltb l 74 ≡ b → advance_to mu s t l Start ≡ advance_of mu s t
      go true e = sym (advance-raised l 74 Start (le_of_lt (ltb-true l 74 e)) h) ∙ advance-free 74 (lit≤ tt)
      go false e = advance-free l (ltb-false l 74 e)

  -- what a stopped advance handed out passes every test, and the trials go on from it
  record Handed (l : ℕ) (b : Bracket) : Type 0 where
    stopped : stopped_of (Kepler m) rest l start ≡ b
    tested : ahead Start ≡ Ok tt
    falls : fall ≡ Ok tt
    again : ahead (Stopped b) ≡ Ok tt
    begins : begun_of (Kepler m) rest (Stopped b) ≡ Ok b

  handed_out : (l : ℕ) (b : Bracket) → advance_to mu s t l Start ≡ Ad.NotFinished b → Handed l b
  unfolding advanced_end ended_from begun_of
  handed_out l b e = go (ahead Start) fall refl refl e
    where
      go : (p q : Result Unit Entry) → ahead Start ≡ p → fall ≡ q → by p (Ok start) q l ≡ Ad.NotFinished b → Handed l b
      go (Err f) q i j e = let z : ◌≡◌ {A = ℕ} 0 1 = cc in absurd (zero_one z)
      go (Ok tt) (Err f) i j e = let z : ◌≡◌ {A = ℕ} 0 1 = cc in absurd (zero_one z)
      go (Ok u) (Ok tt) i j e =
          let w = kepler-whole mu s t m Start i j in
          let a = rest-asked mu s t w in
          let c = handed (size_of t) rest (stopped_of (Kepler m) rest l start) b (arrived-at m (turned_of t s) t (turns_for mu s t).turns b _ e) in
          record {
            stopped = c;
            tested = i;
            falls = j;
            again = kepler-among mu s t m (Stopped b) (subst (λ (r : Bracket). all_meet (times_input (Stopped r)) ≡ true) c (stopped-finite (Kepler m) rest a l)) w;
            begins = subst (λ (r : Bracket). begun_of (Kepler m) rest (Stopped r) ≡ Ok r) c (stopped-begins (Kepler m) rest a l);
          }

  pub advance-taken-up : (l n : ℕ) (b : Bracket) → advance_to mu s t l Start ≡ Ad.NotFinished b → advance_to mu s t n (Stopped b) ≡ ended n b
  unfolding advanced_end ended_from
  advance-taken-up l n b e =
      let h = handed_out l b e in
      ap (λ (p : Result Unit Entry). by p (begun_of (Kepler m) rest (Stopped b)) fall n) h.again
      ∙ ap (λ (v : Result Bracket Amiss). by (Ok tt) v fall n) h.begins
      ∙ ap (λ (q : Result Unit Entry). by (Ok tt) (Ok b) q n) h.falls

  pub advance-not-six : (l n : ℕ) (b : Bracket) → advance_to mu s t l Start ≡ Ad.NotFinished b → advanced_number (advance_to mu s t n (Stopped b)) ≡ 6 → ⊥
  advance-not-six l n b e k = arrived-not-six m (turned_of t s) t (turns_for mu s t).turns (outcome_to (Kepler m) (size_of t) rest n b) (ap advanced_number (sym (advance-taken-up l n b e)) ∙ k)

  pub advance-goes-on : (l n : ℕ) (b : Bracket) → l ≤ n → advance_to mu s t l Start ≡ Ad.NotFinished b → advance_to mu s t n (Stopped b) ≡ advance_to mu s t n Start
  unfolding advanced_end ended_from begun_of
  advance-goes-on l n b k e =
      let h = handed_out l b e in
      advance-taken-up l n b e
      ∙ ap (ended n) (sym h.stopped)
      ∙ ap (advanced_as m (turned_of t s) t (turns_for mu s t).turns) (outcome-goes-on (Kepler m) (size_of t) rest l n start k)
      ∙ sym (ap (λ (p : Result Unit Entry). by p (Ok start) fall n) h.tested ∙ ap (λ (q : Result Unit Entry). by (Ok tt) (Ok start) q n) h.falls)
