-- A used part, and one version more behind it: it is a used part again, the new version is found as it was put, and every
-- earlier one as before. Assumes nothing.
use Rattle.std.specs.Prelude.{Ok, None, is_none}
use Prim.Native.Nat.{ℕ, zero, suc, ◌+◌, ◌-◌, ◌*◌, ◌%◌, ◌≤◌, ◌<◌}
use native.Mathlib.Nat.{add-zero}
use native.Mathlib.Omega.{arith}
use mathlib.Core.Path.{◌≡◌, refl, sym, ap, ◌∙◌, subst}
use mathlib.Core.Bool.{Bool, true, ◌&&◌}
use mathlib.Core.List.{List, [], ◌++◌, append-nil}
use lib.ListN.{length, drop, length-append, length-drop}
use lib.Seq.{drop-drop, drop-append-le, drop_at}
use lib.Dec.{T, leb, eqb, eqb→eq}
use borrow.Author.Tests.{eq-eqb, le-leb, leb-true}
use Rattle.facts.proofs.Truth.{and_0, and-1, both}
use Rattle.field.specs.Bytes.{field}
use Rattle.settings.specs.declared.allowed.Setting.{Setting}
use Rattle.settings.specs.Allowed.{refusal_of}
use Rattle.settings.specs.Layout.{setting_at, is_version, versions_from, versions_in, are_whole, version_bytes, Held}
use Rattle.settings.specs.History.{version_in, look_up}
use Rattle.settings.proofs.Allows.{none-by}
use Rattle.settings.proofs.Versions.{version-length}
use Rattle.settings.proofs.Cases.{none_yet, there}
use Rattle.settings.proofs.Backs.{setting-back, is-version-back, setting-more, version-more}

-- ---- versions one behind the other

-- version i of them, counted from 0
pub version-at : (n k i : ℕ) (s : List ℕ) → versions_from n k s ≡ true → i < n → is_version (k + i) (drop (44 * i) s) ≡ true
unfolding versions_from
version-at zero k i s h l = let z : ⊥ = omega arith in absurd z
version-at (suc n) k zero s h l = rw add-zero (and_0 (is_version k s) (versions_from n (suc k) (drop 44 s)) h)
version-at (suc n) k (suc i) s h l =
    let a : suc k + i ≡ k + suc i = omega arith in
    let e : 44 + 44 * i ≡ 44 * suc i = omega arith in
    let v = version-at n (suc k) i (drop 44 s) (and-1 (is_version k s) (versions_from n (suc k) (drop 44 s)) h) (omega arith) in
    subst (λ (m : ℕ). is_version m (drop (44 * suc i) s) ≡ true) a
    (subst (λ (z : List ℕ). is_version (suc k + i) z ≡ true) (drop-drop (44 * i) 44 s ∙ ap (λ (m : ℕ). drop m s) e) v)

-- one more at the end
one_more : (n k : ℕ) (s : List ℕ) → versions_from n k s ≡ true → is_version (k + n) (drop (44 * n) s) ≡ true → versions_from (suc n) k s ≡ true
unfolding versions_from
one_more zero k s h v = both (is_version k s) true (rw add-zero at v) refl
one_more (suc n) k s h v =
    let a : k + suc n ≡ suc k + n = omega arith in
    let e : 44 * suc n ≡ 44 + 44 * n = omega arith in
    let d : drop (44 * suc n) s ≡ drop (44 * n) (drop 44 s) = ap (λ (m : ℕ). drop m s) e ∙ sym (drop-drop (44 * n) 44 s) in
    let u = subst (λ (m : ℕ). is_version m (drop (44 * n) (drop 44 s)) ≡ true) a (subst (λ (z : List ℕ). is_version (k + suc n) z ≡ true) d v) in
    both (is_version k s) (versions_from (suc n) (suc k) (drop 44 s)) (and_0 (is_version k s) (versions_from n (suc k) (drop 44 s)) h)
    (one_more n (suc k) (drop 44 s) (and-1 (is_version k s) (versions_from n (suc k) (drop 44 s)) h) u)

-- bytes behind them
versions-more : (n k : ℕ) (s t : List ℕ) → 44 * n ≤ length s → versions_from n k (s ++ t) ≡ versions_from n k s
unfolding versions_from
versions-more zero k s t h = refl
versions-more (suc n) k s t h =
    let l : 44 ≤ length s = omega arith in
    ap (λ (b : Bool). b && versions_from n (suc k) (drop 44 (s ++ t))) (version-more s t l k)
    ∙ ap (λ (z : List ℕ). is_version k s && versions_from n (suc k) z) (drop-append-le 44 s t l)
    ∙ ap (λ (b : Bool). is_version k s && b) (versions-more n (suc k) (drop 44 s) t (simp length-drop (omega arith)))

-- ---- a used part

pub record Whole (s : List ℕ) : Type 0 where
  pub size : length s ≡ 44 * versions_in (length s)
  pub few : versions_in (length s) ≤ 64
  pub all : versions_from (versions_in (length s)) 1 s ≡ true

pub whole_is : (s : List ℕ) → are_whole s ≡ true → Whole s
whole_is s w =
    let n = versions_in (length s) in
    let h = and_0 (eqb (length s % 44) 0 && leb n 64) (versions_from n 1 s) w in
    let e : length s % 44 ≡ 0 = eqb→eq _ _ (subst T (sym (and_0 (eqb (length s % 44) 0) (leb n 64) h)) tt) in
    record {
      size = omega (arith, e);
      few = leb-true n 64 (and-1 (eqb (length s % 44) 0) (leb n 64) h);
      all = and-1 (eqb (length s % 44) 0 && leb n 64) (versions_from n 1 s) w;
    }

pub whole_by : (s : List ℕ) (n : ℕ) → length s ≡ 44 * n → n ≤ 64 → versions_from n 1 s ≡ true → are_whole s ≡ true
whole_by s n l h v =
    let r : length s % 44 ≡ 0 = omega (arith, l) in
    let q : n ≡ versions_in (length s) = omega (arith, l) in
    both (eqb (length s % 44) 0 && leb (versions_in (length s)) 64) (versions_from (versions_in (length s)) 1 s)
    (both (eqb (length s % 44) 0) (leb (versions_in (length s)) 64) (eq-eqb (length s % 44) 0 r) (le-leb (versions_in (length s)) 64 (omega (arith, q))))
    (subst (λ (m : ℕ). versions_from m 1 s ≡ true) q v)

-- version k of a used part: it has its number, and its setting is allowed
module _ (s : List ℕ) (k : ℕ) (w : are_whole s ≡ true) (g : 1 ≤ k) (h : k ≤ versions_in (length s)) where
  abbrev p : List ℕ
  p = drop (44 * (k - 1)) s

  stands : is_version k p ≡ true
  stands =
      let e : 1 + (k - 1) ≡ k = omega arith in
      subst (λ (m : ℕ). is_version m p ≡ true) e
      (version-at (versions_in (length s)) 1 (k - 1) s (whole_is s w).all (omega arith))

  -- versions are 1, 2, 3 on without a gap
  pub numbered : field 4 4 p ≡ k
  numbered =
      let a = eqb (field 0 2 p) 44 && eqb (field 2 2 p) 5 in
      let b = and_0 (a && eqb (field 4 4 p) k && eqb (field 9 3 p) 0) (is_none (refusal_of (setting_at p))) stands in
      let c = and_0 (a && eqb (field 4 4 p) k) (eqb (field 9 3 p) 0) b in
      eqb→eq _ _ (subst T (sym (and-1 a (eqb (field 4 4 p) k) c)) tt)

  pub version-allowed : refusal_of (version_in s k) ≡ None
  version-allowed =
      let a = eqb (field 0 2 p) 44 && eqb (field 2 2 p) 5 && eqb (field 4 4 p) k && eqb (field 9 3 p) 0 in
      none-by _ (and-1 a (is_none (refusal_of (setting_at p))) stands)

-- ---- one version more

module _ (s : List ℕ) (x : Setting) (w : are_whole s ≡ true) (room : versions_in (length s) < 64) (held : Held x) (allow : refusal_of x ≡ None) where
  abbrev n : ℕ
  n = versions_in (length s)

  abbrev v : List ℕ
  v = version_bytes (n + 1) x

  abbrev longer : List ℕ
  longer = s ++ v

  longer-size : length longer ≡ 44 * (n + 1)
  longer-size = length-append s v ∙ omega (arith, version-length (n + 1) x, (whole_is s w).size)

  longer-count : versions_in (length longer) ≡ n + 1
  longer-count = omega (arith, longer-size)

  last : drop (44 * n) longer ≡ v
  last = drop_at s v (44 * n) (whole_is s w).size

  last-stands : is_version (n + 1) (drop (44 * n) longer) ≡ true
  last-stands =
      ap (is_version (n + 1)) (last ∙ sym (append-nil v)) ∙ is-version-back (n + 1) x [] held allow (omega arith)

  pub longer-whole : are_whole longer ≡ true
  longer-whole =
      let e : suc n ≡ n + 1 = omega arith in
      let f : n + 1 ≡ 1 + n = omega arith in
      let a = versions-more n 1 s v (omega (arith, (whole_is s w).size)) ∙ (whole_is s w).all in
      let b = subst (λ (m : ℕ). is_version m (drop (44 * n) longer) ≡ true) f last-stands in
      whole_by longer (n + 1) longer-size (omega arith) (subst (λ (m : ℕ). versions_from m 1 longer ≡ true) e (one_more n 1 longer a b))

  -- what is stored is found again under its number
  pub last_found : look_up longer (n + 1) ≡ Ok x
  last_found =
      let e : 44 * (n + 1 - 1) ≡ 44 * n = omega arith in
      let f : version_in longer (n + 1) ≡ x =
      ap (λ (m : ℕ). setting_at (drop m longer)) e ∙ ap setting_at (last ∙ sym (append-nil v)) ∙ setting-back (n + 1) x [] held allow in
      sym (there longer (n + 1) longer-whole (omega arith) (omega (arith, longer-count))) ∙ ap Ok f

  -- no earlier version is changed
  pub earlier-same : (j : ℕ) → j ≤ n → look_up longer j ≡ look_up s j
  earlier-same zero h = sym (none_yet longer 0 longer-whole (omega arith)) ∙ none_yet s 0 w (omega arith)
  earlier-same (suc j) h =
      let o = 44 * (suc j - 1) in
      let z = (whole_is s w).size in
      let l : 44 ≤ length (drop o s) = simp length-drop (omega (arith, z)) in
      let f : version_in longer (suc j) ≡ version_in s (suc j) =
      ap setting_at (drop-append-le o s v (omega (arith, z))) ∙ setting-more (drop o s) v l in
      sym (there longer (suc j) longer-whole (omega arith) (omega (arith, longer-count)))
      ∙ ap Ok f
      ∙ there s (suc j) w (omega arith) h
