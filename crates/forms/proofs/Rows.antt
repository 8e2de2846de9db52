-- Numbers read one behind the other. Assumes nothing.
use Rattle.std.specs.Prelude.{Err, None, Ok, Option, Some}
use Rattle.std.specs.Option.{ok_or}
use Prim.Native.Nat.{ℕ, suc, ◌+◌, ◌-◌, ◌≤◌, ◌<◌}
use native.Mathlib.Nat.{add-zero, add_assoc}
use native.Mathlib.Numerals.{add-one}
use native.Mathlib.Omega.{arith}
use mathlib.Core.Path.{◌≡◌, refl, sym, ap, ◌∙◌}
use mathlib.Core.List.{List, [], ◌∷◌, ◌++◌, append_assoc, append-nil}
use mathlib.Core.Bool.{Bool, true, false}
use lib.ListN.{length, take, drop, set, length-set}
use lib.Seq.{take_all, take-suc-set}
use lib.Ieee.{Float}
use Rattle.words.specs.Words.{word_at, is_end}
use Rattle.numerals.specs.Numbers.{word_number}
use Rattle.forms.specs.Forms.{Form, end, numbers, by_number, read_by}
use Rattle.real.specs.F64.{f0}
use Rattle.std.proofs.Common.{get_or}
use Rattle.std.proofs.Math.Seq.{drop-cons}
use Rattle.std.proofs.lemmas.List.{drop-set-lt, drop_all, take-append-drop}
use Rattle.forms.specs.Parts.{Numbers, filled, filled_from, ReadsNumbers, ReadsOnly}
use Rattle.forms.proofs.Steps.{by_end}

-- by what `ok_or` makes of a word
pub there : {A : Type 0} (n : Option A) (w : ℕ) {x : A} → ok_or n w ≡ Ok x → n ≡ Some x
there (Some y) w e = cc
there None w e = cc

pub missed : {A : Type 0} (n : Option A) (w : ℕ) {v : ℕ} → ok_or n w ≡ Err v → (n ≡ None) × (w ≡ v)
missed (Some y) w e = (cc, cc)
missed None w e = (refl, cc)

-- i numbers are read, and the others are still to be read
pub record Got (line : List ℕ) (k : ℕ) (xs : List Float) (i : ℕ) : Type 0 where
  pub left : ℕ
  pub sum : i + left ≡ length xs
  pub reads : (go : List Float → Form)
      → read_by (numbers (length xs) go) k line ≡ read_by (numbers left (λ (ys : List Float). go (take i xs ++ ys))) (k + i) line

pub got-none : (line : List ℕ) (k : ℕ) (xs : List Float) → Got line k xs 0
got-none line k xs = record { left = length xs; sum = omega arith; reads = λ go. rw (add-zero k) refl }

peel : (line : List ℕ) (go : List Float → Form) (left m k : ℕ) {n w : Option Float} → left ≡ suc m → n ≡ word_number (word_at k line) → n ≡ w
    → read_by (numbers left go) k line ≡ by_number w (λ (x : Float). read_by (numbers m (λ (ys : List Float). go (x ∷ ys))) (k + 1) line) (Err (k + 1))
unfolding numbers read_by
peel line go left m k p e q =
    rw p (ap (λ (n : Option Float). by_number n (λ (x : Float). read_by (numbers m (λ (ys : List Float). go (x ∷ ys))) (k + 1) line) (Err (k + 1))) (sym e ∙ q))

module _ {line : List ℕ} {k : ℕ} {xs : List Float} {i : ℕ} (g : Got line k xs i) where
  some : i < length xs → g.left ≡ suc (g.left - 1)
  some h = omega (arith, g.sum)

  pub got-more : {n : Option Float} {x : Float} → i < length xs → n ≡ word_number (word_at (k + i) line) → n ≡ Some x → Got line k (set xs i x) (i + 1)
  got-more {n} {x} h e q =
      let t : take (i + 1) (set xs i x) ≡ take i xs ++ (x ∷ []) = rw add-one (take-suc-set xs i x h) in
      record {
        left = g.left - 1;
        sum = omega (arith, g.sum, length-set xs i x);
        reads = λ go. rw length-set (g.reads go ∙ peel line (λ (ys : List Float). go (take i xs ++ ys)) g.left (g.left - 1) (k + i) (some h) e q ∙ simp (t, append_assoc, add_assoc k i 1));
      }

  pub got-bad : {n : Option Float} → i < length xs → n ≡ word_number (word_at (k + i) line) → n ≡ None → Numbers xs k (Err (k + i + 1)) line
  got-bad h e q go =
      g.reads go ∙ peel line (λ (ys : List Float). go (take i xs ++ ys)) g.left (g.left - 1) (k + i) (some h) e q

  pub got-all : length xs ≤ i → Numbers xs k (Ok tt) line
  unfolding numbers
  got-all h go =
      let z : g.left ≡ 0 = omega (arith, g.sum) in
      let m : i ≡ length xs = omega (arith, g.sum) in
      g.reads go ∙ rw (z, take_all i xs h, append-nil, m) refl

-- ---- what the slice holds: the numbers read so far, and from there on what it held

abbrev pub Filled : List ℕ → ℕ → List Float → List Float → ℕ → Type 0
Filled line k held xs i = filled k line held ≡ take i xs ++ filled (k + i) line (drop i xs)

pub filled-none : (line : List ℕ) (k : ℕ) (xs : List Float) → Filled line k xs xs 0
filled-none line k xs = rw (add-zero k) refl

module _ (line : List ℕ) (k : ℕ) (held xs : List Float) (i : ℕ) (f : Filled line k held xs i) where
  pub filled-more : {n : Option Float} {x : Float} → i < length xs → n ≡ word_number (word_at (k + i) line) → n ≡ Some x → Filled line k held (set xs i x) (i + 1)
  filled-more {n} {x} h e q =
      let t : take (i + 1) (set xs i x) ≡ take i xs ++ (x ∷ []) = rw add-one (take-suc-set xs i x h) in
      let d : drop (i + 1) (set xs i x) ≡ drop (i + 1) xs = drop-set-lt (i + 1) xs i x (omega arith) in
      let c : drop i xs ≡ get_or xs i x ∷ drop (i + 1) xs = rw add-one (drop-cons xs i x h) in
      let r : filled (k + i) line (drop i xs) ≡ x ∷ filled (k + i + 1) line (drop (i + 1) xs) =
      ap (filled (k + i) line) c ∙ ap (λ (m : Option Float). filled_from m (get_or xs i x ∷ drop (i + 1) xs) (filled (k + i + 1) line (drop (i + 1) xs))) (sym e ∙ q) in
      f ∙ simp (r, t, d, append_assoc, add_assoc k i 1)

  pub filled-bad : {n : Option Float} → i < length xs → n ≡ word_number (word_at (k + i) line) → n ≡ None → xs ≡ filled k line held
  filled-bad {n} h e q =
      let x : Float = get_or xs i f0 in
      let c : drop i xs ≡ x ∷ drop (i + 1) xs = rw add-one (drop-cons xs i f0 h) in
      let r : filled (k + i) line (drop i xs) ≡ drop i xs =
      ap (filled (k + i) line) c ∙ ap (λ (m : Option Float). filled_from m (x ∷ drop (i + 1) xs) (filled (k + i + 1) line (drop (i + 1) xs))) (sym e ∙ q) ∙ sym c in
      sym (f ∙ ap (λ (ys : List Float). take i xs ++ ys) r ∙ take-append-drop i xs)

  pub filled-all : length xs ≤ i → xs ≡ filled k line held
  filled-all h = sym (f ∙ rw (take_all i xs h, drop_all i xs h, append-nil) refl)

-- ---- and no word more

module _ (n : ℕ) (k : ℕ) (line : List ℕ) where
  pub only-all : (xs : List Float) {r : Bool} → ReadsNumbers n (Ok xs) k line → r ≡ is_end (k + n) line → r ≡ true → ReadsOnly n (Ok xs) k line
  only-all xs p e b ask = p (λ (ys : List Float). end (ask ys)) ∙ by_end (ask xs) (k + n) line e b

  pub only-more : (xs : List Float) {r : Bool} → ReadsNumbers n (Ok xs) k line → r ≡ is_end (k + n) line → r ≡ false → ReadsOnly n (Err (k + n + 1)) k line
  only-more xs p e b ask = p (λ (ys : List Float). end (ask ys)) ∙ by_end (ask xs) (k + n) line e b

  pub only-bad : (w : ℕ) → ReadsNumbers n (Err w) k line → ReadsOnly n (Err w) k line
  only-bad w p ask = p (λ (ys : List Float). end (ask ys))
