-- Laws of a search: what is passed, and what is found. Assumes nothing.
use Prim.Native.Nat.{ℕ, zero, suc, ◌+◌, ◌-◌, ◌≤◌, ◌<◌, zero-le, suc-le-suc}
use native.Mathlib.Nat.{zero-add, suc-add}
use native.Mathlib.Numerals.{add-one, one-add}
use native.Mathlib.Omega.{arith}
use mathlib.Core.Path.{◌≡◌, refl, sym, ap, ◌∙◌}
use mathlib.Core.List.{List, [], ◌∷◌}
use mathlib.Core.Bool.{Bool, true, false, not, cond, ◌&&◌, true≢false}
use lib.ListN.{length, get_or, take, drop, length-drop, drop_of_length-le}
use lib.Seq.{drop-cons, take_all}
use Rattle.std.proofs.lemmas.List.{drop-drop}
use lib.Dec.{eqb, ltb, eqb-zero-suc, eqb-suc-zero, eqb-suc-suc}
use lib.Pointwise.{pointwise}
use borrow.Author.Tests.{eq-eqb, ne_eqb, eqb-true, ltb-false}
use Rattle.facts.proofs.Truth.{each, and-1}
use Rattle.std.specs.Prelude.{None, Some}
use Rattle.std.specs.List.{position, position_or_len}
use Rattle.words.specs.declared.Byte.{Byte}
use Rattle.words.specs.declared.Byte.TheVariants.{Blank, NotBlank}
use Rattle.words.specs.Words.{is_of, up_to, from, from_word, word_at, starts_with, is_word}
use Rattle.words.specs.Found.{Found}

-- a list from a place on: the byte there, and the rest
pub step : (l : List ℕ) (i : ℕ) → i < length l → drop i l ≡ get_or l i 0 ∷ drop (i + 1) l
step l i h = rw (add-one, drop-cons l i 0)

-- what `&s[k..]` lends
pub rest_of : (k : ℕ) (s : List ℕ) → take (length s - k) (drop k s) ≡ drop k s
rest_of k s = take_all (length s - k) (drop k s) (simp length-drop (omega arith))

pub upTo-nil : (c : Byte) → up_to c [] ≡ []
unfolding up_to
upTo-nil c = refl

-- how many bytes stand before the first such byte
abbrev pub count : Byte → List ℕ → ℕ
count c s = position_or_len (is_of c) s

count-within : (c : Byte) (s : List ℕ) → count c s ≤ length s
count-within c [] = zero-le
count-within c (b ∷ s) = go (is_of c b) (count-within c s)
  where
    go : (t : Bool) → count c s ≤ length s → cond (not t) (1 + count c s) 0 ≤ suc (length s)
    go true h = zero-le
    go false h = omega arith

count-passed : (c : Byte) (s : List ℕ) → take (count c s) s ≡ up_to c s
unfolding up_to
count-passed c [] = refl
count-passed c (b ∷ s) = go (is_of c b) (count-passed c s)
  where
    go : (t : Bool) → take (count c s) s ≡ up_to c s → take (cond (not t) (1 + count c s) 0) (b ∷ s) ≡ cond t [] (b ∷ up_to c s)
    go true h = refl
    go false h = rw one-add (ap (λ (x : List ℕ). b ∷ x) h)

count-rest : (c : Byte) (s : List ℕ) → drop (count c s) s ≡ from c s
unfolding from
count-rest c [] = refl
count-rest c (b ∷ s) = go (is_of c b) (count-rest c s)
  where
    go : (t : Bool) → drop (count c s) s ≡ from c s → drop (cond (not t) (1 + count c s) 0) (b ∷ s) ≡ cond t (b ∷ s) (from c s)
    go true h = refl
    go false h = rw one-add h

-- the place that a search from a place on finds
found : (c : Byte) (s : List ℕ) (at n : ℕ) → at ≤ length s → n ≡ count c (drop at s) → Found c s at (at + n)
found c s at n h e =
    let k : n ≤ length (drop at s) = rw e (count-within c (drop at s)) in
    let m : at + n - at ≡ n = omega arith in
    record {
      behind = omega arith;
      within = omega (arith, length-drop at s);
      passed = rw (m, e) (count-passed c (drop at s));
      rest = sym (drop-drop n at s) ∙ rw e (count-rest c (drop at s));
    }

counted : (t : Bool) (n m : ℕ) → Some n ≡ cond t (Some m) None → n ≡ m
counted true n m e = cc
counted false n m e = cc

all-passed : (k m : ℕ) → None ≡ cond (ltb m k) (Some m) None → m ≤ k → m ≡ k
all-passed k m e h = go (ltb m k) refl e
  where
    go : (t : Bool) → ltb m k ≡ t → None ≡ cond t (Some m) None → m ≡ k
    go true g e = cc
    go false g e = let l : k ≤ m = ltb-false m k g in omega arith

module _ (c : Byte) (s : List ℕ) (at : ℕ) (h : at ≤ length s) where
  pub found-there : (n : ℕ) → Some n ≡ position (is_of c) (take (length s - at) (drop at s)) → Found c s at (at + n)
  found-there n e = found c s at n h (counted (ltb (count c (drop at s)) (length (drop at s))) n (count c (drop at s)) (rw rest_of at e))

  pub found-nowhere : None ≡ position (is_of c) (take (length s - at) (drop at s)) → Found c s at (length s)
  found-nowhere e =
      let n : count c (drop at s) ≡ length (drop at s) = all-passed _ _ (rw rest_of at e) (count-within c (drop at s)) in
      let m : at + count c (drop at s) ≡ length s = omega (arith, length-drop at s) in
      rw m at (found c s at (count c (drop at s)) h refl)

-- ---- words

pub first_word : (s : List ℕ) (r : ℕ) → Found NotBlank s 0 r → drop r s ≡ from_word 0 s
unfolding from_word
first_word s r f = f.rest

pub next_word : (s : List ℕ) (k at e r : ℕ) → drop at s ≡ from_word k s → Found Blank s at e → Found NotBlank s e r → drop r s ≡ from_word (k + 1) s
unfolding from_word
next_word s k at e r h f g =
    g.rest ∙ ap (from NotBlank) (f.rest ∙ ap (from Blank) h) ∙ ap (λ (j : ℕ). from_word j s) (sym (add-one k))

pub this-word : (s : List ℕ) (k at e : ℕ) → drop at s ≡ from_word k s → Found Blank s at e → take (e - at) (drop at s) ≡ word_at k s
unfolding word_at
this-word s k at e h f = f.passed ∙ ap (up_to Blank) h

-- at the end of the line there is no word, however many are to stand before it
none-on : (s : List ℕ) (i j : ℕ) → from_word i s ≡ [] → from_word (j + i) s ≡ []
unfolding from_word from
none-on s i zero e = simp (zero-add i) e
none-on s i (suc j) e = simp (suc-add j i) (ap (λ (x : List ℕ). from NotBlank (from Blank x)) (none-on s i j e))

pub no_word : (s : List ℕ) (i k at : ℕ) → drop at s ≡ from_word i s → length s ≤ at → i < k → [] ≡ word_at k s
unfolding word_at
no_word s i k at h l t =
    let z : from_word i s ≡ [] = sym h ∙ drop_of_length-le s l in
    let n : k - i + i ≡ k = omega arith in
    sym (ap (up_to Blank) (ap (λ (j : ℕ). from_word j s) (sym n) ∙ none-on s i (k - i) z) ∙ upTo-nil Blank)

-- ---- comparing

starts_none : (s : List ℕ) → starts_with s [] ≡ true
unfolding starts_with
starts_none [] = refl
starts_none (a ∷ s) = refl

turned : (a b : ℕ) → eqb b a ≡ eqb a b
turned a b = go (eqb a b) refl
  where
    go : (t : Bool) → eqb a b ≡ t → eqb b a ≡ t
    go true e = eq-eqb b a (sym (eqb-true a b e))
    go false e = ne_eqb b a (λ h. true≢false (sym (eq-eqb a b (sym h)) ∙ e))

starts_nil : (b : ℕ) (t : List ℕ) → starts_with [] (b ∷ t) ≡ false
unfolding starts_with
starts_nil b t = refl

starts_cons : (a b : ℕ) (s t : List ℕ) → (eqb a b && starts_with s t) ≡ starts_with (a ∷ s) (b ∷ t)
unfolding starts_with
starts_cons a b s t = refl

-- s starts with t where t is what stands at its front
pub starts_front : (s t : List ℕ) → pointwise eqb t (take (length t) s) ≡ starts_with s t
starts_front s [] = sym (starts_none s)
starts_front [] (b ∷ t) = sym (starts_nil b t)
starts_front (a ∷ s) (b ∷ t) = rw (turned a b) (ap (λ (x : Bool). eqb a b && x) (starts_front s t) ∙ starts_cons a b s t)

-- the same, with the two in the other order
pub front_starts : (s t : List ℕ) → pointwise eqb (take (length t) s) t ≡ starts_with s t
front_starts s [] = sym (starts_none s)
front_starts [] (b ∷ t) = sym (starts_nil b t)
front_starts (a ∷ s) (b ∷ t) = ap (λ (x : Bool). eqb a b && x) (front_starts s t) ∙ starts_cons a b s t

-- s is t where each byte is the same
pub same_bytes : (s t : List ℕ) → pointwise eqb s t ≡ is_word s t
unfolding is_word starts_with
same_bytes [] [] = refl
same_bytes [] (b ∷ t) = rw (eqb-zero-suc (length t)) refl
same_bytes (a ∷ s) [] = rw (eqb-suc-zero (length s)) refl
same_bytes (a ∷ s) (b ∷ t) = rw (same_bytes s t, eqb-suc-suc (length s) (length t)) (swapped (eqb a b) (eqb (length s) (length t)) (starts_with s t))
  where
    swapped : (x y z : Bool) → (x && (y && z)) ≡ (y && (x && z))
    swapped true y z = refl
    swapped false true z = refl
    swapped false false z = refl

-- what starts with t is as long
pub starts-long : (s t : List ℕ) → starts_with s t ≡ true → length t ≤ length s
unfolding starts_with
starts-long s [] e = zero-le
starts-long [] (b ∷ t) e = absurd (true≢false (sym e))
starts-long (a ∷ s) (b ∷ t) e = suc-le-suc (starts-long s t (and-1 (eqb a b) (starts_with s t) e))

-- two words are the same where `is_word` says so
alike : (s t : List ℕ) → length s ≡ length t → starts_with s t ≡ true → s ≡ t
unfolding starts_with
alike [] [] n e = refl
alike [] (b ∷ t) n e = let z : ⊥ = omega arith in absurd z
alike (a ∷ s) [] n e = let z : ⊥ = omega arith in absurd z
alike (a ∷ s) (b ∷ t) n e =
    let p = each (eqb a b) (starts_with s t) e in
    let h : a ≡ b = eqb-true a b p.0 in
    let r : s ≡ t = alike s t (omega arith) p.1 in
    cc

pub same_word : (s t : List ℕ) → is_word s t ≡ true → s ≡ t
unfolding is_word
same_word s t e =
    let p = each (eqb (length s) (length t)) (starts_with s t) e in
    alike s t (eqb-true (length s) (length t) p.0) p.1

pub nil : (s : List ℕ) → length s ≡ 0 → s ≡ []
nil [] h = refl
nil (b ∷ s) h = let z : ⊥ = omega arith in absurd z
