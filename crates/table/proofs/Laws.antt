-- A list of tests: the one that is told fails and those ahead of it are met; none is told where all are met; its number is that of
-- the first row that applies. Once for every list. Assumes nothing.
use Rattle.std.specs.Prelude.{Result, Ok, Err}
use Rattle.refusal.specs.Refusals.{number_of}
use Prim.Native.Nat.{ℕ, zero, suc}
use mathlib.Core.Path.{◌≡◌, refl, sym, ap, ◌∙◌, subst}
use mathlib.Core.Bool.{Bool, true, false, cond, not, ◌&&◌, ◌||◌, false≢true, and_assoc}
use mathlib.Core.List.{List, [], ◌∷◌, ◌++◌}
use lib.Dec.{T, eqb, eqb→eq}
use borrow.Author.Tests.{eq-eqb}
use Rattle.facts.proofs.Truth.{and_0, and-1}
use Rattle.facts.proofs.Wholes.{zero_one}
use Rattle.table.specs.declared.Entry.{Entry as EntryOf}
use Rattle.table.specs.Tests.{Entry, meets, entries_by, first_failing, Reason, all_meet, test_number, test_number_by, passes, told, ◌▷◌, applies_by, first_row_by, behind_row_by, without_by, ordered_by, first_row, without, ordered}

-- ---- the code's chain is the list's first failing entry

stopped : {R : Type 0} (f : EntryOf R) (es : List (EntryOf R)) → Err f ▷ es ≡ Err f
unfolding told
stopped f [] = refl
stopped f (e ∷ es) = stopped f es

pub first_failing_lem : {R : Type 0} (es : List (EntryOf R)) → (Ok tt) ▷ es ≡ first_failing es
unfolding told first_failing
first_failing_lem [] = refl
first_failing_lem (e ∷ es) = go (first_failing_lem es) (meets e)
  where
    go : (Ok tt) ▷ es ≡ first_failing es → (b : Bool) → told (Ok tt) b e ▷ es ≡ cond b (first_failing es) (Err e)
    go k true = k
    go k false = stopped e es

-- what a call's tests come to, in a chain that begins with them: as it failed, or as from the start
pub told_fails : {R : Type 0} (f : EntryOf R) (met : Bool) (e : EntryOf R) → told (Err f) met e ≡ Err f
unfolding told
told_fails f met e = refl

pub told_passes : {R : Type 0} (u : Unit) (met : Bool) (e : EntryOf R) → told (Ok u) met e ≡ told (Ok tt) met e
unfolding told
told_passes u met e = refl

-- entries whose refusals are given as they are
pub entries_same : (es : List Entry) → entries_by (λ r. r) es ≡ es
entries_same [] = refl
entries_same (e ∷ es) = ap (λ (l : List Entry). e ∷ l) (entries_same es)

-- one list after the other is the two as one
pub then : {R : Type 0} (t : Result Unit (EntryOf R)) (xs ys : List (EntryOf R)) → t ▷ xs ▷ ys ≡ t ▷ (xs ++ ys)
then t [] ys = refl
then t (e ∷ xs) ys = then (told t (meets e) e) xs ys

-- the tests of one list and then of another: as the first fails, or the second's where the first is met
pub then-fails : {R : Type 0} (xs ys : List (EntryOf R)) (e : EntryOf R) → Ok tt ▷ xs ≡ Err e → Ok tt ▷ (xs ++ ys) ≡ Err e
then-fails {R = R} xs ys e h = sym (then (Ok tt) xs ys) ∙ ap (λ (t : Result Unit (EntryOf R)). t ▷ ys) h ∙ stopped e ys

pub then-passes : {R : Type 0} (xs ys : List (EntryOf R)) (u : Unit) → Ok tt ▷ xs ≡ Ok u → Ok tt ▷ (xs ++ ys) ≡ Ok tt ▷ ys
then-passes {R = R} xs ys u h = sym (then (Ok tt) xs ys) ∙ ap (λ (t : Result Unit (EntryOf R)). t ▷ ys) h

-- ---- 1: the reason is true, and there is no second one

pub reason : {R : Type 0} (es : List (EntryOf R)) (e : EntryOf R) → first_failing es ≡ Err e → Reason es e
unfolding first_failing
reason [] e h = let n : ◌≡◌ {A = ℕ} 0 1 = cc in absurd (zero_one n)
reason {R = R} (d ∷ es) e h = go (reason es e) (meets d) refl h
  where
    go : (first_failing es ≡ Err e → Reason es e) → (b : Bool) → meets d ≡ b → cond b (first_failing es) (Err d) ≡ Err e → Reason (d ∷ es) e
    go f true k g =
        let r = f g in
        record { ahead = d ∷ r.ahead; rest = r.rest; stands = ap (λ (l : List (EntryOf R)). d ∷ l) r.stands; met = rw k r.met; fails = r.fails }
    go f false k g = let i : d ≡ e = cc in record { ahead = []; rest = es; stands = ap (λ (x : EntryOf R). x ∷ es) i; met = refl; fails = ap meets (sym i) ∙ k }

pub reason-only : {R : Type 0} (es : List (EntryOf R)) (e : EntryOf R) → Reason es e → first_failing es ≡ Err e
unfolding first_failing
reason-only {R = R} es e r = ap first_failing r.stands ∙ go r.ahead r.met
  where
    go : (xs : List (EntryOf R)) → all_meet xs ≡ true → first_failing (xs ++ (e ∷ r.rest)) ≡ Err e
    go [] h = rw r.fails
    go (d ∷ xs) h = rw (and_0 (meets d) (all_meet xs) h) (go xs (and-1 (meets d) (all_meet xs) h))

-- ---- 2: none fails exactly where all are met

pub passes-all : {R : Type 0} (es : List (EntryOf R)) → passes (first_failing es) ≡ all_meet es
unfolding first_failing passes
passes-all [] = refl
passes-all (e ∷ es) = go (passes-all es) (meets e)
  where
    go : passes (first_failing es) ≡ all_meet es → (b : Bool) → passes (cond b (first_failing es) (Err e)) ≡ (b && all_meet es)
    go k true = k
    go k false = refl

pub all_met_lem : {R : Type 0} (es : List (EntryOf R)) → first_failing es ≡ Ok tt → all_meet es ≡ true
unfolding passes
all_met_lem es h = sym (passes-all es) ∙ ap passes h

pub none-fails : {R : Type 0} (es : List (EntryOf R)) → all_meet es ≡ true → first_failing es ≡ Ok tt
unfolding passes
none-fails {R = R} es h = passed (first_failing es) (passes-all es ∙ h)
  where
    passed : (t : Result Unit (EntryOf R)) → passes t ≡ true → t ≡ Ok tt
    passed (Ok tt) g = refl
    passed (Err e) g = absurd (false≢true g)

-- ---- 3: the number is that of the first row that applies

-- of a row whose entries lead the list: it applies and gives the number, or it can be left out
record LeftOut {R : Type 0} (number : R → ℕ) (n : ℕ) (es : List (EntryOf R)) : Type 0 where
  silent : applies_by number n es ≡ false
  same : first_failing es ≡ first_failing (behind_row_by number n es)
  others : (m : ℕ) → applies_by number m es ≡ applies_by number m (behind_row_by number n es)

data Led {R : Type 0} (number : R → ℕ) (n : ℕ) (es : List (EntryOf R)) : Type 0 where
  tells : applies_by number n es ≡ true → test_number_by number (first_failing es) ≡ n → Led number n es
  silent : LeftOut number n es → Led number n es

-- every entry is of row n
abbrev pub is_row_by : {R : Type 0} → (R → ℕ) → ℕ → List (EntryOf R) → Bool
is_row_by number n [] = true
is_row_by number n (e ∷ es) = eqb (number e.refusal) n && is_row_by number n es

-- a row's tests, should they fail, all have its number
abbrev pub NumberedBy : {R : Type 0} → (R → ℕ) → ℕ → Result Unit (EntryOf R) → Type 0
NumberedBy number n (Ok tt) = Prim.Unit
NumberedBy number n (Err e) = (number e.refusal) ≡ n

-- a row that the list does not have is not told
abbrev pub NotRowBy : {R : Type 0} → (R → ℕ) → ℕ → Result Unit (EntryOf R) → Type 0
NotRowBy number n (Ok tt) = Prim.Unit
NotRowBy number n (Err e) = (number e.refusal) ≡ n → ⊥

module _ {R : Type 0} (number : R → ℕ) where
  quiet : (n : ℕ) (es : List (EntryOf R)) → without_by number n es ≡ true → applies_by number n es ≡ false
  quiet n [] h = refl
  quiet n (e ∷ es) h = go (quiet n es) (eqb (number e.refusal) n) (meets e) h
    where
      go : (without_by number n es ≡ true → applies_by number n es ≡ false) → (b c : Bool) → (not b && without_by number n es) ≡ true → ((not c && b) || applies_by number n es) ≡ false
      go f true c k = absurd (false≢true k)
      go f false true k = f k
      go f false false k = f k

  led : (n : ℕ) (es : List (EntryOf R)) → without_by number n (behind_row_by number n es) ≡ true → Led number n es
  unfolding first_failing
  led n [] h = silent (record { silent = refl; same = refl; others = λ m. refl })
  led n (e ∷ es) h = go (led n es) (eqb (number e.refusal) n) refl (meets e) refl
    where
      more : eqb (number e.refusal) n ≡ true → meets e ≡ true → Led number n es → Led number n (e ∷ es)
      more i j (tells a g) = tells (rw j a) (rw j g)
      more i j (silent r) = silent (record { silent = rw j r.silent; same = rw (i, j) r.same; others = λ m. rw (i, j) (r.others m) })

      go : (without_by number n (behind_row_by number n es) ≡ true → Led number n es) → (b : Bool) → eqb (number e.refusal) n ≡ b → (c : Bool) → meets e ≡ c → Led number n (e ∷ es)
      go f true i true j = more i j (f (rw i at h))
      go f true i false j = tells (rw (j, i)) (rw j (eqb→eq (number e.refusal) n (subst T (sym i) tt)))
      go f false i c j = silent (record { silent = quiet n (e ∷ es) (rw i at h); same = rw i; others = λ m. rw i })

  as-rest : (ns : List ℕ) (xs ys : List (EntryOf R)) → ((m : ℕ) → applies_by number m xs ≡ applies_by number m ys) → first_row_by number ns xs ≡ first_row_by number ns ys
  unfolding first_row_by
  as-rest [] xs ys h = refl
  as-rest (n ∷ ns) xs ys h = rw (h n, as-rest ns xs ys h)

  pub first_row_by_lem : (ns : List ℕ) (es : List (EntryOf R)) → ordered_by number ns es ≡ true → test_number_by number (first_failing es) ≡ first_row_by number ns es
  unfolding first_failing first_row_by
  first_row_by_lem [] [] h = refl
  first_row_by_lem [] (e ∷ es) h = absurd (false≢true h)
  first_row_by_lem (n ∷ ns) es h = go (first_row_by_lem ns (behind_row_by number n es) (and-1 (without_by number n (behind_row_by number n es)) (ordered_by number ns (behind_row_by number n es)) h)) (led n es (and_0 (without_by number n (behind_row_by number n es)) (ordered_by number ns (behind_row_by number n es)) h))
    where
      go : test_number_by number (first_failing (behind_row_by number n es)) ≡ first_row_by number ns (behind_row_by number n es) → Led number n es → test_number_by number (first_failing es) ≡ cond (applies_by number n es) n (first_row_by number ns es)
      go k (tells a g) = rw a g
      go k (silent r) = rw r.silent (ap (test_number_by number) r.same ∙ k ∙ sym (as-rest ns es (behind_row_by number n es) r.others))

  -- the entries of one row, and others behind them: its number unless all of it is met
  pub row-by-then : (n : ℕ) (xs ys : List (EntryOf R)) → is_row_by number n xs ≡ true → test_number_by number (first_failing (xs ++ ys)) ≡ cond (all_meet xs) (test_number_by number (first_failing ys)) n
  unfolding first_failing
  row-by-then n [] ys h = refl
  row-by-then n (e ∷ xs) ys h = go (row-by-then n xs ys (and-1 (eqb (number e.refusal) n) (is_row_by number n xs) h)) (meets e)
    where
      go : test_number_by number (first_failing (xs ++ ys)) ≡ cond (all_meet xs) (test_number_by number (first_failing ys)) n → (b : Bool) → test_number_by number (cond b (first_failing (xs ++ ys)) (Err e)) ≡ cond (b && all_meet xs) (test_number_by number (first_failing ys)) n
      go k true = k
      go k false = eqb→eq (number e.refusal) n (subst T (sym (and_0 (eqb (number e.refusal) n) (is_row_by number n xs) h)) tt)

  pub one-row-by : (n : ℕ) (es : List (EntryOf R)) → is_row_by number n es ≡ true → NumberedBy number n (first_failing es)
  unfolding first_failing
  one-row-by n [] h = tt
  one-row-by n (e ∷ es) h = go (one-row-by n es (and-1 (eqb (number e.refusal) n) (is_row_by number n es) h)) (meets e)
    where
      go : NumberedBy number n (first_failing es) → (b : Bool) → NumberedBy number n (cond b (first_failing es) (Err e))
      go k true = k
      go k false = eqb→eq (number e.refusal) n (subst T (sym (and_0 (eqb (number e.refusal) n) (is_row_by number n es) h)) tt)

  pub not-row-by : (n : ℕ) (es : List (EntryOf R)) → without_by number n es ≡ true → NotRowBy number n (first_failing es)
  unfolding first_failing
  not-row-by n [] h = tt
  not-row-by n (e ∷ es) h = go (not-row-by n es (and-1 (not (eqb (number e.refusal) n)) (without_by number n es) h)) (meets e)
    where
      go : NotRowBy number n (first_failing es) → (b : Bool) → NotRowBy number n (cond b (first_failing es) (Err e))
      go k true = k
      go k false = λ z. false≢true (ap not (sym (eq-eqb _ _ z)) ∙ and_0 (not (eqb (number e.refusal) n)) (without_by number n es) h)

-- of entries whose refusals are cases of `Refusal`
pub first_row_lem : (ns : List ℕ) (es : List Entry) → ordered ns es ≡ true → test_number (first_failing es) ≡ first_row ns es
unfolding test_number
first_row_lem ns es h = first_row_by_lem number_of ns es h

abbrev pub is_row : ℕ → List Entry → Bool
is_row n es = is_row_by number_of n es

pub row-then : (n : ℕ) (xs ys : List Entry) → is_row n xs ≡ true → test_number (first_failing (xs ++ ys)) ≡ cond (all_meet xs) (test_number (first_failing ys)) n
unfolding test_number
row-then n xs ys h = row-by-then number_of n xs ys h

abbrev pub Numbered : ℕ → Result Unit Entry → Type 0
Numbered n t = NumberedBy number_of n t

pub one-row : (n : ℕ) (es : List Entry) → is_row n es ≡ true → Numbered n (first_failing es)
one-row n es h = one-row-by number_of n es h

abbrev pub NotRow : ℕ → Result Unit Entry → Type 0
NotRow n t = NotRowBy number_of n t

pub not-row : (n : ℕ) (es : List Entry) → without n es ≡ true → NotRow n (first_failing es)
not-row n es h = not-row-by number_of n es h

-- where the tests ahead are met, the first that fails is among the rest
pub met-then : {R : Type 0} (xs ys : List (EntryOf R)) → all_meet xs ≡ true → first_failing (xs ++ ys) ≡ first_failing ys
unfolding first_failing
met-then [] ys h = refl
met-then (e ∷ xs) ys h = rw (and_0 (meets e) (all_meet xs) h) (met-then xs ys (and-1 (meets e) (all_meet xs) h))

-- ---- what a met row says

pub meet-both : {R : Type 0} (xs ys : List (EntryOf R)) → all_meet (xs ++ ys) ≡ (all_meet xs && all_meet ys)
meet-both [] ys = refl
meet-both (e ∷ xs) ys = ap (λ (b : Bool). meets e && b) (meet-both xs ys) ∙ sym (and_assoc (meets e) (all_meet xs) (all_meet ys))

pub met-left : {R : Type 0} (xs ys : List (EntryOf R)) → all_meet (xs ++ ys) ≡ true → all_meet xs ≡ true
met-left xs ys h = and_0 (all_meet xs) (all_meet ys) (sym (meet-both xs ys) ∙ h)

pub met-right : {R : Type 0} (xs ys : List (EntryOf R)) → all_meet (xs ++ ys) ≡ true → all_meet ys ≡ true
met-right xs ys h = and-1 (all_meet xs) (all_meet ys) (sym (meet-both xs ys) ∙ h)

-- the k-th entry, counted from 0, is met
abbrev pub MetAt : {R : Type 0} → ℕ → List (EntryOf R) → Type 0
MetAt k [] = Prim.Unit
MetAt zero (e ∷ es) = meets e ≡ true
MetAt (suc k) (e ∷ es) = MetAt k es

pub met_at : {R : Type 0} (k : ℕ) (es : List (EntryOf R)) → all_meet es ≡ true → MetAt k es
met_at k [] h = tt
met_at zero (e ∷ es) h = and_0 (meets e) (all_meet es) h
met_at (suc k) (e ∷ es) h = met_at k es (and-1 (meets e) (all_meet es) h)
