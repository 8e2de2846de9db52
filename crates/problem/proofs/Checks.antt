-- The tests of a bracket to go on from: it is fine exactly if every test is met; and what is amiss is that of the first test that fails,
-- every test ahead of it being met. Assumes nothing.
use Rattle.std.specs.Prelude.{Result, Ok, Err}
use Prim.Native.Nat.{ℕ}
use mathlib.Core.Path.{◌≡◌, refl, sym, ap, ◌∙◌}
use mathlib.Core.Bool.{Bool, true, false, cond, ◌&&◌}
use mathlib.Core.List.{List, [], ◌∷◌, ◌++◌}
use Rattle.facts.proofs.Truth.{and_0, and-1, both}
use Rattle.facts.proofs.Wholes.{zero_one}
use Rattle.reason.specs.declared.Amiss.{Amiss}
use Rattle.problem.specs.Held.{EndTest, tested_by, ◌▸◌}

-- as the code goes: what failed stays, and what passed is as the start
pub tested_fails : (a : Amiss) (e : EndTest) → tested_by (Err a) e ≡ Err a
unfolding tested_by
tested_fails a e = refl

pub tested_passes : (u : Unit) (e : EndTest) → tested_by (Ok u) e ≡ tested_by (Ok tt) e
unfolding tested_by
tested_passes u e = refl

stays : (a : Amiss) (ts : List EndTest) → Err a ▸ ts ≡ Err a
unfolding tested_by
stays a [] = refl
stays a (t ∷ ts) = stays a ts

joined : (c : Result Unit Amiss) (xs ys : List EndTest) → c ▸ xs ▸ ys ≡ c ▸ (xs ++ ys)
joined c [] ys = refl
joined c (t ∷ xs) ys = joined (tested_by c t) xs ys

pub amiss-then : (xs ys : List EndTest) (a : Amiss) → Ok tt ▸ xs ≡ Err a → Ok tt ▸ (xs ++ ys) ≡ Err a
amiss-then xs ys a h = sym (joined (Ok tt) xs ys) ∙ ap (λ (c : Result Unit Amiss). c ▸ ys) h ∙ stays a ys

pub fine-then : (xs ys : List EndTest) (u : Unit) → Ok tt ▸ xs ≡ Ok u → Ok tt ▸ (xs ++ ys) ≡ Ok tt ▸ ys
fine-then xs ys u h = sym (joined (Ok tt) xs ys) ∙ ap (λ (c : Result Unit Amiss). c ▸ ys) h

-- every test is met
abbrev pub all_met : List EndTest → Bool
all_met [] = true
all_met (e ∷ es) = e.met && all_met es

one-met : (c : Result Unit Amiss) (t : EndTest) → tested_by c t ≡ Ok tt → (c ≡ Ok tt) × (t.met ≡ true)
unfolding tested_by
one-met (Ok tt) t e = (refl, go t.met e)
  where
    go : (b : Bool) → cond b (Ok tt) (Err t.fault) ≡ Ok tt → b ≡ true
    go true e = refl
    go false e = let z : ◌≡◌ {A = ℕ} 0 1 = cc in absurd (zero_one z)
one-met (Err a) t e = let z : ◌≡◌ {A = ℕ} 0 1 = cc in absurd (zero_one z)

pub fine-met : (c : Result Unit Amiss) (ts : List EndTest) → c ▸ ts ≡ Ok tt → (c ≡ Ok tt) × (all_met ts ≡ true)
fine-met c [] e = (e, refl)
fine-met c (t ∷ ts) e =
    let h = fine-met (tested_by c t) ts e in
    let k = one-met c t h.0 in
    (k.0, both t.met (all_met ts) k.1 h.1)

pub met-fine : (ts : List EndTest) → all_met ts ≡ true → Ok tt ▸ ts ≡ Ok tt
unfolding tested_by
met-fine [] e = refl
met-fine (t ∷ ts) e = ap (λ (b : Bool). cond b (Ok tt) (Err t.fault) ▸ ts) (and_0 t.met (all_met ts) e) ∙ met-fine ts (and-1 t.met (all_met ts) e)

-- a stands for a test of the list that fails, and every test ahead of it is met
pub record First (ts : List EndTest) (a : Amiss) : Type 0 where
  pub ahead : List EndTest
  pub test : EndTest
  pub rest : List EndTest
  pub stands : ts ≡ ahead ++ (test ∷ rest)
  pub met : all_met ahead ≡ true
  pub fails : test.met ≡ false
  pub told : a ≡ test.fault

kept : (a b : Amiss) (ts : List EndTest) → Err a ▸ ts ≡ Err b → b ≡ a
unfolding tested_by
kept a b [] e = cc
kept a b (t ∷ ts) e = kept a b ts e

pub first-amiss : (ts : List EndTest) (a : Amiss) → Ok tt ▸ ts ≡ Err a → First ts a
unfolding tested_by
first-amiss [] a e = let z : ◌≡◌ {A = ℕ} 0 1 = cc in absurd (zero_one z)
first-amiss (t ∷ ts) a e = go (first-amiss ts a) t.met refl e
  where
    go : (Ok tt ▸ ts ≡ Err a → First ts a) → (b : Bool) → t.met ≡ b → cond b (Ok tt) (Err t.fault) ▸ ts ≡ Err a → First (t ∷ ts) a
    go f true k e =
        let h = f e in
        record { ahead = t ∷ h.ahead; test = h.test; rest = h.rest; stands = ap (λ (xs : List EndTest). t ∷ xs) h.stands; met = both t.met (all_met h.ahead) k h.met; fails = h.fails; told = h.told }
    go f false k e = record { ahead = []; test = t; rest = ts; stands = refl; met = refl; fails = k; told = kept t.fault a ts e }
