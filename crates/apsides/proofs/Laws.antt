-- The refusal number of the apsides is the first row's that applies, and 1 where an input is infinite or not a number; no answer
-- holds a NaN.
-- Assumes nothing.
use Rattle.std.specs.Prelude.{Result, Ok, Err}
use Prim.Native.Nat.{zero, suc, ◌+◌, ◌-◌, ◌*◌, ◌≤◌, ◌<◌}
use native.Mathlib.Omega.{arith}
use mathlib.Core.Path.{◌≡◌, refl, sym, ap, ◌∙◌, subst}
use mathlib.Core.Bool.{Bool, true, false, cond, ◌&&◌, false≢true}
use mathlib.Core.List.{List, ◌++◌}
use lib.IntN.{pos}
use lib.Dec.{T, ltb, ltb→lt, lit≤, eqb, eqb→eq, eqb-suc-zero}
use lib.Ieee as Ieee
use lib.Ieee.{Float, nan, inf, fin, binary64, up, down, round, is_nan, of_bits}
use lib.Ieee.Fits.{down_pos, and_l}
use Rattle.facts.proofs.Truth.{and_0, and-1}
use Rattle.real.specs.F64.{◌⊕◌, ◌⊖◌, ◌⊗◌, ◌⊘◌, ◌≤ᶠ◌, ◌<ᶠ◌, two^, f0, f1, finite, size_of}
use Rattle.real.proofs.Bounds.{Within, within-finite, add-within, round-no-nan, or_cases, round-from-1}
use Rattle.root.proofs.Sign.{NotBelow, root-not-below}
use Rattle.vector.specs.declared.State.{State}
use Rattle.vector.specs.Vectors.{position_of, velocity_of}
use Rattle.table.specs.declared.Name.TheVariants.{Position, Velocity}
use Rattle.table.specs.Tests as Tests
use Rattle.table.specs.Tests.{Entry, first_failing, all_meet, first_row, table_order}
use Rattle.rows.specs.Rows.{finite_inputs, state_rows}
use Rattle.table.proofs.Laws.{all_met_lem, met-left, met-right, first_row_lem, row-then}
use Rattle.rows.proofs.Inputs.{all_finite, inputs-finite}
use Rattle.conic.specs.Conic.{straight_row}
use Rattle.apsides.specs.declared.Shape.{Shape}
use Rattle.apsides.specs.declared.Apsides.TheVariants.{Closed, Open, Refused}
use Rattle.apsides.specs.Apsides.{Apsides, radicand_of, shape_of, derived_row, apsides_tests, distances_of, answered, apsides_of, apsides_number}

-- ---- 1 + e is finite and 1 or more, for an e under 2^3 that is not below zero

one-plus : (x : Float) → finite x ≡ true → NotBelow x → T (fin false 1 (pos 0) ≤ᶠ f1 ⊕ x)
unfolding Ieee.add Ieee.sum of_bits
one-plus nan g h = absurd (false≢true g)
one-plus (inf s) g h = absurd (false≢true g)
one-plus (fin true (suc m) e) g h = absurd h
one-plus (fin false m e) g h = round-from-1 (1 * 1 * down e + m * up e * 1) (1 * down e) (omega (arith, down_pos e)) (omega arith)
one-plus (fin true zero e) g h = go (ltb (1 * 1 * down e) (0 * up e * 1)) (λ l. ltb→lt _ _ l)
  where
    go : (b : Bool) → (T b → 1 * 1 * down e < 0 * up e * 1)
        → T (fin false 1 (pos 0) ≤ᶠ cond b (round binary64 true (0 * up e * 1 - 1 * 1 * down e) (1 * down e)) (round binary64 false (1 * 1 * down e - 0 * up e * 1) (1 * down e)))
    go true l = let k = l tt in absurd (omega arith)
    go false l = round-from-1 (1 * 1 * down e - 0 * up e * 1) (1 * down e) (omega (arith, down_pos e)) (omega arith)

under-8 : (x : Float) → NotBelow x → (x <ᶠ two^ 3) ≡ true → Within x 8
unfolding Ieee.lt of_bits
under-8 nan h g = absurd (false≢true g)
under-8 (inf true) h g = absurd h
under-8 (inf false) h g = absurd (false≢true g)
under-8 (fin true (suc m) e) h g = absurd h
under-8 (fin true zero e) h g = omega arith
under-8 (fin false m e) h g = let k = ltb→lt (m * up e * 1) (8 * down e) (subst T (sym g) tt) in omega arith

finite-plus : (x : Float) → Within x 8 → finite (f1 ⊕ x) ≡ true
unfolding of_bits
finite-plus x h = within-finite (f1 ⊕ x) 9 (add-within f1 x 1 8 (lit≤ tt) (lit≤ tt) h)

-- ---- a quotient by such a number is no NaN

quotient : (x y : Float) → is_nan x ≡ false → finite y ≡ true → T (fin false 1 (pos 0) ≤ᶠ y) → is_nan (x ⊘ y) ≡ false
unfolding Ieee.div Ieee.le Ieee.lt Ieee.eq is_nan
quotient nan y g f h = absurd (false≢true (sym g))
quotient (inf s) nan g f h = absurd (false≢true f)
quotient (inf s) (inf t) g f h = absurd (false≢true f)
quotient (inf s) (fin t n d) g f h = refl
quotient (fin s m e) nan g f h = absurd (false≢true f)
quotient (fin s m e) (inf t) g f h = absurd (false≢true f)
quotient (fin s m e) (fin true zero d) g f h =
    let k : 1 * down d ≡ 0 * up d * 1 = eqb→eq _ _ (and_l (eqb (1 * down d) (0 * up d * 1)) _ h) in absurd (omega (arith, down_pos d))
quotient (fin s m e) (fin false zero d) g f h =
    let k : 1 * down d ≤ 0 * up d * 1 = or_cases (1 * down d) (0 * up d * 1) h in absurd (omega (arith, down_pos d))
quotient (fin s m e) (fin t (suc n) d) g f h = rw (eqb-suc-zero n) (round-no-nan binary64 (Ieee.unlike s t) (m * up e * down d) (suc n * up d * down e))

-- what a range test of it says of a number: it is no NaN
at_most : (x y : Float) → (x ≤ᶠ y) ≡ true → is_nan x ≡ false
unfolding Ieee.le Ieee.lt Ieee.eq is_nan
at_most nan y h = absurd (false≢true h)
at_most (inf s) y h = refl
at_most (fin s m e) y h = refl

under : (x y : Float) → (x <ᶠ y) ≡ true → is_nan x ≡ false
unfolding Ieee.lt is_nan
under nan y h = absurd (false≢true h)
under (inf s) y h = refl
under (fin s m e) y h = refl

dividend : (x y : Float) → is_nan (x ⊘ y) ≡ false → is_nan x ≡ false
unfolding Ieee.div is_nan
dividend nan y h = h
dividend (inf s) y h = refl
dividend (fin s m e) y h = refl

-- ---- the answer's number

distances-number : (d : Shape) → apsides_number (distances_of d) ≡ 0
unfolding distances_of apsides_number
distances-number d = go (f0 <ᶠ d.alpha && f0 <ᶠ f1 ⊖ d.e && d.p ⊘ (f1 ⊖ d.e) <ᶠ two^ 29)
  where
    go : (b : Bool) → apsides_number (cond b (Closed (d.p ⊘ (f1 ⊕ d.e)) (d.p ⊘ (f1 ⊖ d.e))) (Open (d.p ⊘ (f1 ⊕ d.e)))) ≡ 0
    go true = refl
    go false = refl

pub answered-number : (t : Result Unit Entry) (d : Shape) → apsides_number (answered t d) ≡ Tests.test_number t
unfolding answered apsides_number Tests.test_number
answered-number (Ok tt) d = distances-number d
answered-number (Err e) d = refl

module _ (mu : Float) (s : State) where
  abbrev tests : List Entry
  tests = apsides_tests mu s (shape_of mu s)

  -- the number of the first row that applies, in the order of the table
  pub apsides-table : apsides_number (apsides_of mu s) ≡ first_row table_order tests
  apsides-table = answered-number (first_failing tests) (shape_of mu s) ∙ first_row_lem table_order tests refl

  -- an input that is infinite or not a number is refused with 1, whatever else holds
  pub apsides-not-finite : (finite mu && all_finite (position_of s) && all_finite (velocity_of s)) ≡ false → apsides_number (apsides_of mu s) ≡ 1
  apsides-not-finite h =
      let behind : List Entry = state_rows mu s (shape_of mu s).r1 ++ derived_row (shape_of mu s) ++ straight_row (shape_of mu s).pn in
      answered-number (first_failing tests) (shape_of mu s)
      ∙ row-then 1 (finite_inputs mu Position (position_of s) Velocity (velocity_of s)) behind refl
      ∙ ap (λ (b : Bool). cond b (Tests.test_number (first_failing behind)) 1) (inputs-finite mu Position Velocity (position_of s) (velocity_of s) ∙ h)

-- ---- no answer holds a NaN

abbrev pub Clean : Apsides → Type 0
Clean (Closed near far) = (is_nan near ≡ false) × (is_nan far ≡ false)
Clean (Open near) = is_nan near ≡ false
Clean (Refused n) = Prim.Unit

distances-clean : (d : Shape) → is_nan (d.p ⊘ (f1 ⊕ d.e)) ≡ false → Clean (distances_of d)
unfolding distances_of
distances-clean d h = go (f0 <ᶠ d.alpha && f0 <ᶠ f1 ⊖ d.e) (d.p ⊘ (f1 ⊖ d.e) <ᶠ two^ 29) refl
  where
    go : (b c : Bool) → (d.p ⊘ (f1 ⊖ d.e) <ᶠ two^ 29) ≡ c → Clean (cond (b && c) (Closed (d.p ⊘ (f1 ⊕ d.e)) (d.p ⊘ (f1 ⊖ d.e))) (Open (d.p ⊘ (f1 ⊕ d.e))))
    go true true e = (h, under (d.p ⊘ (f1 ⊖ d.e)) (two^ 29) e)
    go true false e = h
    go false c e = h

near-clean : (mu : Float) (s : State) → let d = shape_of mu s in all_meet (derived_row d) ≡ true → is_nan (d.p ⊘ (f1 ⊕ d.e)) ≡ false
near-clean mu s g =
    let d = shape_of mu s in
    let c2 : Bool = size_of d.c2 <ᶠ two^ 6 in
    let pn : Bool = d.pn ≤ᶠ two^ 4 in
    let e8 : Bool = d.e <ᶠ two^ 3 in
    let k = and-1 c2 (pn && (e8 && true)) g in
    let n = root-not-below (radicand_of (f1 ⊖ d.pn ⊗ d.alpha)) in
    let w = under-8 d.e n (and_0 e8 true (and-1 pn (e8 && true) k)) in
    quotient d.p (f1 ⊕ d.e) (dividend d.p d.r1 (at_most d.pn (two^ 4) (and_0 pn (e8 && true) k))) (finite-plus d.e w) (one-plus d.e (within-finite d.e 8 w) n)

answered-clean : (t : Result Unit Entry) (d : Shape) → (t ≡ Ok tt → Clean (distances_of d)) → Clean (answered t d)
unfolding answered
answered-clean (Ok tt) d h = h refl
answered-clean (Err e) d h = tt

pub apsides-clean : (mu : Float) (s : State) → Clean (apsides_of mu s)
apsides-clean mu s =
    let d = shape_of mu s in
    let rows : List Entry = finite_inputs mu Position (position_of s) Velocity (velocity_of s) ++ state_rows mu s d.r1 in
    answered-clean (first_failing (apsides_tests mu s d)) d
    (λ g. distances-clean d (near-clean mu s (met-right rows (derived_row d) (met-left (rows ++ derived_row d) (straight_row d.pn) (all_met_lem (apsides_tests mu s d) g)))))
