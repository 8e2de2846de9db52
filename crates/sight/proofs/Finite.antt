-- Every number of an answer is finite, so that no answer holds a NaN, and the larger k stands first. Assumes nothing.
use Rattle.std.specs.Prelude.{Err, Ok, Result}
use Rattle.refusal.specs.declared.Refusal.{Refusal}
use Rattle.std.proofs.Common.{◌≡◌, ℕ, zero, suc, ◌+◌, ◌*◌, ◌^◌, ◌<◌, ◌≤◌, true, false, not, ◌&&◌, ◌||◌, T, eqb, ltb, pos, sym, refl, ◌∙◌, mul-pos, arith, lit≤, ltb-false, le-ltb, lt-ltb}
use mathlib.Core.Bool.{false≢true, and-true}
use lib.Dec.{eqb-zero-suc}
use lib.Ieee as Ieee
use lib.Ieee.{Float, nan, inf, fin, binary64, up, down, round, fits, of_bits}
use lib.Ieee.Back.{round_whole}
use lib.Ieee.Fits.{up_pos, sub-fits}
use borrow.Author.Tests.{not-true}
use Rattle.real.specs.F64.{◌⊕◌, ◌⊖◌, ◌⊗◌, ◌≤ᶠ◌, ◌<ᶠ◌, f0, finite}
use Rattle.real.proofs.Bounds.{Within, within-finite, wider, neg-within}
use Rattle.root.specs.Root.{root_of}
use Rattle.root.proofs.Sign.{root-not-below}
use Rattle.vector.specs.declared.Vector.{Vector}
use Rattle.vector.specs.Vectors.{dot_of}
use Rattle.table.specs.Tests.{Entry, first_failing, all_meet}
use Rattle.table.proofs.Laws.{all_met_lem, met-left, met-right, MetAt, met_at}
use Rattle.rows.proofs.Components.{Finite}
use Rattle.wheel.specs.Wheel.{direction_of, signed_sine, signed_cosine, over_of}
use Rattle.wheel.proofs.Sizes.{sine-within, cosine-within}
use Rattle.sight.specs.declared.Line.{Line}
use Rattle.sight.specs.declared.Points.{Points}
use Rattle.sight.specs.Sight.{elevated_of, sight_point, input_tests, radicand_row, points_of, sight_line, sight_tests, answered, sight_of}
use Rattle.sight.proofs.Laws.{within-turn}
use Rattle.sight.proofs.Larger.{larger-first}
use Rattle.sight.proofs.Sizes.{Held, mul_at, add_at, sub_at, under-2^29, root-most, Each, unit-components, scaled-each, sum-each, dot-within}

-- ---- numbers of f64 over 2^53

small : (a : ℕ) → a ≤ 2 ^ 53 → Held a
small a h = round_whole binary64 false a h

held-58 : Held (536870912 * 536870912)
unfolding round
held-58 = (refl, refl)

held-59 : Held (536870912 * 536870912 + 536870912 * 536870912)
unfolding round
held-59 = (refl, refl)

held-60 : Held (536870912 * 536870912 + 536870912 * 536870912 + 536870912 * 536870912)
unfolding round
held-60 = (refl, refl)

held-61 : Held (864691128455135232 + 864691128455135232)
unfolding round
held-61 = (refl, refl)

held-68 : Held (17179869184 * 17179869184)
unfolding round
held-68 = (refl, refl)

held-69 : Held (295147905179352825856 + 295147905179352825856)
unfolding round
held-69 = (refl, refl)

-- a radicand that is not below zero has a root
root-within : (x : Float) → T (fits binary64 x) → Within x 590295810358705651712 → (x <ᶠ f0) ≡ false → Within (root_of x) 34359738369
unfolding Ieee.lt of_bits
root-within nan f w g = absurd w
root-within (inf s) f w g = absurd w
root-within (fin false m d) f w g = root-most (fin false m d) f w
root-within (fin true zero d) f w g = unfold root_of in omega arith
root-within (fin true (suc m) d) f w g =
    let k = ltb-false 0 (suc m * up d * 1 + 0 * up (pos 0) * down d) g in
    let q : 0 < suc m * up d = mul-pos (omega arith) (up_pos d) in
    absurd (omega arith)

-- both k and both points are finite, and the larger k stands first
pub record Handed (q : Points) : Type 0 where
  pub larger : finite q.larger ≡ true
  pub smaller : finite q.smaller ≡ true
  pub first : Finite q.first
  pub second : Finite q.second
  pub ordered : T (q.smaller ≤ᶠ q.larger)

each-finite : (w : Vector) (n : ℕ) → Each w n → Finite w
each-finite w n g = record { x = within-finite w.x n g.x; y = within-finite w.y n g.y; z = within-finite w.z n g.z }

-- ---- the line

module _ (a p : Vector) (e : ℕ) (h v : Vector) (A : Each a 536870912) (P : Each p 536870912) (E : e < 3600) (H : Each h 3) (G : Each v 3) where
  abbrev u : Vector
  u = elevated_of (direction_of e) h v

  abbrev line : Line
  line = sight_line a p e h v

  u-each : Each u 6
  u-each =
      sum-each _ _ 3 3 (small 6 (lit≤ tt))
      (scaled-each (over_of (signed_cosine e)) h 1 3 (small 3 (lit≤ tt)) (cosine-within e E) H)
      (scaled-each (over_of (signed_sine e)) v 1 3 (small 3 (lit≤ tt)) (sine-within e E) G)

  b-within : Within line.b 17179869184
  b-within =
      wider line.b 9663676416 17179869184 (lit≤ tt)
      (dot-within a u 536870912 6 (small 3221225472 (lit≤ tt)) (small 6442450944 (lit≤ tt)) (small 9663676416 (lit≤ tt)) A u-each)

  radicand-within : Within line.radicand 590295810358705651712
  radicand-within =
      let d = dot_of a a ⊖ dot_of p p in
      let s = sub_at (dot_of a a) (dot_of p p) 864691128455135232 864691128455135232 held-61 (dot-within a a 536870912 536870912 held-58 held-59 held-60 A A) (dot-within p p 536870912 536870912 held-58 held-59 held-60 P P) in
      sub_at (line.b ⊗ line.b) d 295147905179352825856 295147905179352825856 held-69
      (mul_at line.b line.b 17179869184 17179869184 held-68 b-within b-within)
      (wider d 1729382256910270464 295147905179352825856 (lit≤ tt) s)

  point-each : (k : Float) → Within k 51539607553 → Each (sight_point a k u) 309774516230
  point-each k w =
      sum-each _ _ 536870912 309237645318 (small 309774516230 (lit≤ tt)) A
      (scaled-each k u 51539607553 6 (small 309237645318 (lit≤ tt)) w u-each)

  points-finite : (line.radicand <ᶠ f0) ≡ false → Handed (points_of a line)
  points-finite g =
      let neg-b = Ieee.neg line.b in
      let root = root_of line.radicand in
      let r = root-within line.radicand (sub-fits binary64 (line.b ⊗ line.b) (dot_of a a ⊖ dot_of p p)) radicand-within g in
      let n = neg-within line.b 17179869184 b-within in
      let l = add_at neg-b root 17179869184 34359738369 (small 51539607553 (lit≤ tt)) n r in
      let s = sub_at neg-b root 17179869184 34359738369 (small 51539607553 (lit≤ tt)) n r in
      record {
        larger = within-finite (neg-b ⊕ root) 51539607553 l;
        smaller = within-finite (neg-b ⊖ root) 51539607553 s;
        first = each-finite (sight_point a (neg-b ⊕ root) u) 309774516230 (point-each (neg-b ⊕ root) l);
        second = each-finite (sight_point a (neg-b ⊖ root) u) 309774516230 (point-each (neg-b ⊖ root) s);
        ordered = larger-first neg-b root (within-finite neg-b 17179869184 n) (within-finite root 34359738369 r) (root-not-below line.radicand);
      }

-- ---- row 18, and the answer

-- a finite number is at least 0 or below it
zero-side : (x : Float) → finite x ≡ true → (f0 ≤ᶠ x) ≡ not (x <ᶠ f0)
unfolding Ieee.le Ieee.lt Ieee.eq of_bits
zero-side nan h = absurd (false≢true h)
zero-side (inf s) h = absurd (false≢true h)
zero-side (fin false m d) h = above (m * up d * 1) (0 * 1 * down d) (omega arith)
  where
    above : (n z : ℕ) → z ≡ 0 → (ltb z n || eqb z n && true) ≡ not (ltb n z)
    above zero z e = rw e
    above (suc n) z e = rw (e, lt-ltb 0 (suc n) (omega arith), le-ltb (suc n) 0 (omega arith))
zero-side (fin true m d) h = below (m * up d * 1) (0 * 1 * down d) (omega arith)
  where
    below : (n z : ℕ) → z ≡ 0 → (false || eqb z n && (false || eqb z 0)) ≡ not (ltb 0 (n + z))
    below zero z e = rw e
    below (suc n) z e = rw (e, eqb-zero-suc n, lt-ltb 0 (suc n + 0) (omega arith))

module _ (a p : Vector) (e : ℕ) (h v : Vector) (met : all_meet (input_tests a p e h v) ≡ true) where
  -- the k-th test of the inputs
  at : (k : ℕ) → MetAt k (input_tests a p e h v)
  at k = met_at k (input_tests a p e h v) met

  A : Each a 536870912
  A = record { x = under-2^29 a.x (at 12); y = under-2^29 a.y (at 13); z = under-2^29 a.z (at 14) }

  P : Each p 536870912
  P = record { x = under-2^29 p.x (at 17); y = under-2^29 p.y (at 18); z = under-2^29 p.z (at 19) }

  H : Each h 3
  H = unit-components h (record { x = at 6; y = at 7; z = at 8 }) (at 23)

  G : Each v 3
  G = unit-components v (record { x = at 9; y = at 10; z = at 11 }) (at 24)

  radicand-finite : finite (sight_line a p e h v).radicand ≡ true
  radicand-finite = within-finite (sight_line a p e h v).radicand 590295810358705651712 (radicand-within a p e h v A P (within-turn a p e h v met) H G)

  -- 18 exactly if the radicand is negative
  pub eighteen : all_meet (radicand_row (sight_line a p e h v)) ≡ not ((sight_line a p e h v).radicand <ᶠ f0)
  eighteen = and-true (f0 ≤ᶠ (sight_line a p e h v).radicand) ∙ zero-side (sight_line a p e h v).radicand radicand-finite

  handed : all_meet (radicand_row (sight_line a p e h v)) ≡ true → Handed (points_of a (sight_line a p e h v))
  handed g = points-finite a p e h v A P (within-turn a p e h v met) H G (not-true ((sight_line a p e h v).radicand <ᶠ f0) (sym eighteen ∙ g))

abbrev pub Clean : Result Points Refusal → Type 0
Clean (Ok q) = Handed q
Clean (Err n) = Prim.Unit

-- whatever the inputs are
pub sight-clean : (a p : Vector) (e : ℕ) (h v : Vector) → Clean (sight_of a p e h v)
unfolding answered
sight-clean a p e h v = go (first_failing (sight_tests a p e h v)) refl
  where
    line : Line
    line = sight_line a p e h v

    go : (t : Result Unit Entry) → first_failing (sight_tests a p e h v) ≡ t → Clean (answered t a line)
    go (Err f) q = tt
    go (Ok tt) q =
        let m = all_met_lem (sight_tests a p e h v) q in
        handed a p e h v (met-left (input_tests a p e h v) (radicand_row line) m) (met-right (input_tests a p e h v) (radicand_row line) m)
