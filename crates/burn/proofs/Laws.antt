-- Laws of the burn: no answer holds a NaN; an answer's pericentre is high enough; and 28 exactly where it is not. Assumes nothing.
use Rattle.std.specs.Prelude.{Err, None, Ok, Option, Result, Some}
use Rattle.refusal.specs.declared.Refusal.{Refusal}
use Rattle.refusal.specs.Refusals.{number_of}
use Prim.Native.Nat.{ℕ, ◌+◌, ◌-◌, ◌*◌}
use mathlib.Core.Path.{◌≡◌, refl, sym, ap, ◌∙◌, subst}
use mathlib.Core.Bool.{Bool, true, false, cond, not, ◌&&◌, beq, false≢true}
use mathlib.Core.List.{List, ◌++◌}
use borrow.Author.Tests.{eqb-false}
use lib.Dec.{ltb, eqb}
use lib.IntN.{ℤ}
use lib.Ieee as Ieee
use lib.Ieee.{Float, nan, inf, fin, binary64, up, down, round, is_nan}
use Rattle.facts.proofs.Wholes.{zero_one}
use Rattle.real.specs.F64.{◌⊖◌, ◌≤ᶠ◌, f0, finite}
use Rattle.real.proofs.Bounds.{round-no-nan}
use Rattle.vector.specs.declared.Vector.{Vector}
use Rattle.vector.specs.declared.State.{State}
use Rattle.vector.specs.Vectors.{position_of, velocity_of, state_of, length_of, difference_of}
use Rattle.table.specs.declared.Name.TheVariants.{Position, Velocity}
use Rattle.table.specs.Tests as Tests
use Rattle.table.specs.Tests.{Entry, first_failing, first_row, first_row_by, table_order, applies, passes}
use Rattle.table.proofs.Laws.{all_met_lem, met-left, met-right, first_row_lem}
use Rattle.rows.specs.Rows.{finite_inputs, mu_row, position_row, velocity_components, state_rows}
use Rattle.rows.proofs.Components.{Finite, velocity-finite}
use Rattle.conic.specs.Conic.{straight_row}
use Rattle.kepler.specs.Kepler.{turned_of, kepler_tests, arrival_of}
use Rattle.problem.specs.Problems.{last_of}
use Rattle.problem.specs.declared.Problem.TheVariants.{Kepler}
use Rattle.kepler.proofs.Laws.{FiniteState, kepler-table}
use Rattle.solve.specs.declared.Advanced.TheVariants as Ad
use Rattle.solve.specs.declared.Solution.{Solution}
use Rattle.solve.specs.Ends.{motion_for, turns_for}
use Rattle.solve.specs.Answers.{Advanced, advance_of, advanced_number}
use Rattle.solve.proofs.Finite.{advance-finite}
use Rattle.solve.proofs.Numbers.{timed, after_trials, arrives, advance-number}
use Rattle.reach.specs.declared.Reached.{Reached}
use Rattle.reach.specs.declared.Reached.TheVariants as R
use Rattle.reach.specs.Reach.{reach_of}
use Rattle.theta.specs.Theta.{TransferTime}
use Rattle.theta.specs.declared.TransferTime.TheVariants as Th
use Rattle.theta.specs.Theta as Theta
use Rattle.apsides.specs.declared.Apsides.TheVariants as Ap
use Rattle.apsides.specs.Apsides.{Apsides, shape_of, derived_row, apsides_tests, distances_of, answered, apsides_of}
use Rattle.apsides.specs.Apsides as ApsidesOf
use Rattle.apsides.proofs.Laws as Apsides
use Rattle.elapsed.specs.Elapsed.{at_least, elapsed_of}
use Rattle.coelliptic.specs.declared.Angle.{Angle}
use Rattle.coelliptic.specs.declared.Passive.{Passive}
use Rattle.coelliptic.specs.declared.Speeds.{Speeds}
use Rattle.coelliptic.specs.Coelliptic.{angle_of, passive_of, axis_of, speeds_of, new_of}
use Rattle.burn.specs.declared.Centre.{Centre}
use Rattle.burn.specs.declared.Burn.{Burn}
use Rattle.burn.specs.declared.Burn.TheVariants.{Closed, Open}
use Rattle.burn.specs.Burn.{kept_of, moved_of, moved_for, moved_by, at_time, in_line_of, clear_of, cleared_of, changed_of, sped_of, bound, beside_of, coelliptic_of, from_point, from_passive, from_active, radius_allowed, burn_of, burn_number}

-- ---- a difference of two finite numbers is no NaN

sum-no-nan : (s t : Bool) (a b c : ℕ) → is_nan (Ieee.sum binary64 s a t b c) ≡ false
unfolding Ieee.sum
sum-no-nan s t a b c = go (beq s t) (ltb a b)
  where
    go : (p q : Bool) → is_nan (cond p (round binary64 s (a + b) c) (cond q (round binary64 t (b - a) c) (round binary64 (s && ltb b a) (a - b) c))) ≡ false
    go true q = round-no-nan binary64 s (a + b) c
    go false true = round-no-nan binary64 t (b - a) c
    go false false = round-no-nan binary64 (s && ltb b a) (a - b) c

difference-clean : (x y : Float) → finite x ≡ true → finite y ≡ true → is_nan (x ⊖ y) ≡ false
unfolding Ieee.sub Ieee.add Ieee.neg
difference-clean nan y h k = absurd (false≢true h)
difference-clean (inf s) y h k = absurd (false≢true h)
difference-clean (fin s m e) nan h k = absurd (false≢true k)
difference-clean (fin s m e) (inf t) h k = absurd (false≢true k)
difference-clean (fin s m e) (fin t n d) h k = sum-no-nan s (not t) (m * up e * down d) (n * up d * down e) (down e * down d)

-- ---- a state that is moved is finite

found : (a : Advanced) (z : State) → kept_of a ≡ Ok z → (x : Solution) × ((w : ℕ) × (a ≡ Ad.Found z x w))
unfolding kept_of
found (Ad.Found s x w) z e = (x, (w, ap (λ (y : State). Ad.Found y x w) (same s z e)))
  where
    same : (s z : State) → ◌≡◌ {A = Result State Refusal} (Ok s) (Ok z) → s ≡ z
    same s z e = cc
found Ad.TooLong z e = let n : ◌≡◌ {A = ℕ} 0 1 = cc in absurd (zero_one n)
found (Ad.NotFinished b) z e = let n : ◌≡◌ {A = ℕ} 0 1 = cc in absurd (zero_one n)
found (Ad.Refused m) z e = let n : ◌≡◌ {A = ℕ} 0 1 = cc in absurd (zero_one n)

moved-finite : (mu : Float) (s : State) (t : Float) (z : State) → moved_of mu s t ≡ Ok z → FiniteState z
unfolding moved_of
moved-finite mu s t z e =
    let f = found (advance_of mu s t) z e in
    (advance-finite mu s t z f.0 f.1.0 f.1.1).0

at-finite : (mu : Float) (s : State) (from to : ℤ) (z : State) → at_time mu s from to ≡ Ok z → FiniteState z
unfolding at_time moved_for
at-finite mu s from to z e = go (elapsed_of from to) e
  where
    go : (x : Option Float) → moved_for mu s x ≡ Ok z → FiniteState z
    go (Some t) h = moved-finite mu s t z h
    go None h = let n : ◌≡◌ {A = ℕ} 0 1 = cc in absurd (zero_one n)

-- ---- no advance, no transfer time and no apsides are refused with 28

ne : (n : ℕ) → eqb n 28 ≡ false → n ≡ 28 → ⊥
ne n h e = eqb-false n 28 h e

pick : (b : Bool) (n m : ℕ) → (n ≡ 28 → ⊥) → (m ≡ 28 → ⊥) → cond b n m ≡ 28 → ⊥
pick true n m p q e = p e
pick false n m p q e = q e

row_other : (es : List Entry) → first_row table_order es ≡ 28 → ⊥
unfolding first_row_by
row_other es =
    pick (applies 1 es) 1 _ (ne 1 refl)
    (pick (applies 2 es) 2 _ (ne 2 refl)
    (pick (applies 3 es) 3 _ (ne 3 refl)
    (pick (applies 4 es) 4 _ (ne 4 refl)
    (pick (applies 5 es) 5 _ (ne 5 refl)
    (pick (applies 10 es) 10 _ (ne 10 refl)
    (pick (applies 6 es) 6 _ (ne 6 refl)
    (pick (applies 19 es) 19 0 (ne 19 refl) (ne 0 refl))))))))

-- another number than 28, if it is refused
abbrev Other : Result State Refusal → Type 0
Other b = (n : Refusal) → b ≡ Err n → number_of n ≡ 28 → ⊥

inject : (m n : Refusal) → ◌≡◌ {A = Result State Refusal} (Err m) (Err n) → number_of m ≡ number_of n
inject m n e = ap number_of cc

kept-number : (a : Advanced) (n : Refusal) → kept_of a ≡ Err n → advanced_number a ≡ number_of n
unfolding kept_of advanced_number
kept-number (Ad.Found s x w) n e = let z : ◌≡◌ {A = ℕ} 0 1 = cc in absurd (zero_one z)
kept-number Ad.TooLong n e = inject Refusal.TooLong n e
kept-number (Ad.NotFinished b) n e = inject Refusal.NotFinished n e
kept-number (Ad.Refused m) n e = inject m n e

moved_other : (mu : Float) (s : State) (t : Float) → Other (moved_of mu s t)
unfolding moved_of
moved_other mu s t n e h =
    let m = motion_for mu s t in
    let tests : List Entry = kepler_tests mu s t m in
    let l = last_of (Kepler m) (turns_for mu s t).rest in
    let r : Bool = arrives (arrival_of m (turned_of t s) l.lo) in
    let ended : after_trials l.below l.above r ≡ 28 → ⊥ =
    pick (timed l.below) (cond (timed l.above) (cond r 0 9) 7) 8
    (pick (timed l.above) (cond r 0 9) 7 (pick r 0 9 (ne 0 refl) (ne 9 refl)) (ne 7 refl))
    (ne 8 refl)
    in
    pick (passes (first_failing tests)) (after_trials l.below l.above r) (Tests.test_number (first_failing tests)) ended
    (λ q. row_other tests (sym (kepler-table mu s t m) ∙ q))
    (sym (advance-number mu s t) ∙ kept-number (advance_of mu s t) n e ∙ h)

at_other : (mu : Float) (s : State) (from to : ℤ) → Other (at_time mu s from to)
unfolding at_time moved_for
at_other mu s from to n e h = go (elapsed_of from to) e
  where
    go : (x : Option Float) → moved_for mu s x ≡ Err n → ⊥
    go (Some t) q = moved_other mu s t n q h
    go None q = ne 5 refl (inject Refusal.TimeOutOfRange n q ∙ h)

told-other : (s : State) (r : Reached) (n : Refusal) → Theta.transfer_time_by s r ≡ Th.Refused n → ⊥
unfolding Theta.transfer_time_by
told-other s (R.Time t) n e = let z : ◌≡◌ {A = ℕ} 0 1 = cc in absurd (zero_one z)
told-other s (R.Under q) n e = let z : ◌≡◌ {A = ℕ} 0 1 = cc in absurd (zero_one z)
told-other s (R.Over q) n e = let z : ◌≡◌ {A = ℕ} 0 1 = cc in absurd (zero_one z)

theta-other : (mu : Float) (s : State) (sin cos : Float) (n : Refusal) → Theta.theta_of mu s sin cos ≡ Th.Refused n → number_of n ≡ 28 → ⊥
unfolding Theta.answered Tests.test_number
theta-other mu s sin cos n e h = go (first_failing (Theta.theta_tests mu s sin cos (Theta.sweep_of mu s sin cos))) refl e
  where
    same : (i j : Refusal) → Th.Refused i ≡ Th.Refused j → number_of i ≡ number_of j
    same i j q = ap number_of cc

    go : (t : Result Unit Entry) → first_failing (Theta.theta_tests mu s sin cos (Theta.sweep_of mu s sin cos)) ≡ t
        → Theta.answered t (Theta.transfer_time_by s (reach_of (Theta.arc_of mu (Theta.sweep_of mu s sin cos)))) ≡ Th.Refused n → ⊥
    go (Ok u) p q = told-other s (reach_of (Theta.arc_of mu (Theta.sweep_of mu s sin cos))) n q
    go (Err f) p q =
        row_other (Theta.theta_tests mu s sin cos (Theta.sweep_of mu s sin cos))
        (sym (first_row_lem table_order (Theta.theta_tests mu s sin cos (Theta.sweep_of mu s sin cos)) refl) ∙ ap Tests.test_number p ∙ same f.refusal n q ∙ h)

line_other : (mu : Float) (s : State) (g : Angle) → Other (in_line_of mu s g)
unfolding in_line_of moved_by
line_other mu s g n e h = go (Theta.theta_of mu s g.sin g.cos) refl e
  where
    go : (x : TransferTime) → Theta.theta_of mu s g.sin g.cos ≡ x → moved_by mu s x ≡ Err n → ⊥
    go (Th.Time t) p q = moved_other mu s t.time n q h
    go Th.TooLong p q = ne 7 refl (inject Refusal.TooLong n q ∙ h)
    go Th.TooShort p q = ne 8 refl (inject Refusal.TooShort n q ∙ h)
    go (Th.Refused m) p q = theta-other mu s g.sin g.cos m p (inject m n q ∙ h)

apsides-other : (mu : Float) (s : State) (n : Refusal) → apsides_of mu s ≡ Ap.Refused n → number_of n ≡ 28 → ⊥
unfolding ApsidesOf.apsides_number
apsides-other mu s n e h = row_other (apsides_tests mu s (shape_of mu s)) (sym (Apsides.apsides-table mu s) ∙ ap ApsidesOf.apsides_number e ∙ h)

-- ---- what holds of every refusal with another number, and of the apsides after a change of a finite state, holds of the answer

module _ (k : Centre) (P : Result Burn Refusal → Type 0) (no : (n : Refusal) → (number_of n ≡ 28 → ⊥) → P (Err n)) (yes : (a : State) (new : Vector) → FiniteState a → P (changed_of k a new)) where
  sped : (a : State) (v : Speeds) → FiniteState a → P (sped_of k a v)
  unfolding sped_of
  sped a v f = go (f0 ≤ᶠ v.radicand)
    where
      go : (b : Bool) → P (cond b (changed_of k a (new_of a v)) (Err Refusal.NoSpeed))
      go true = yes a (new_of a v) f
      go false = no Refusal.NoSpeed (ne 27 refl)

  beside : (a : State) (p : Passive) (rA aA : Float) → FiniteState a → P (beside_of k a p rA aA)
  unfolding beside_of
  beside a p rA aA f = go (bound p aA)
    where
      go : (b : Bool) → P (cond b (sped_of k a (speeds_of k.mu p rA aA)) (Err Refusal.NoOrbit))
      go true = sped a (speeds_of k.mu p rA aA) f
      go false = no Refusal.NoOrbit (ne 26 refl)

  point : (a : State) (c : Result State Refusal) → FiniteState a → Other c → P (from_point k a c)
  unfolding from_point coelliptic_of
  point a (Ok c) f o =
      let p = passive_of k.mu c in
      let rA = length_of (position_of a) in
      beside a p rA (axis_of p rA) f
  point a (Err n) f o = no n (o n refl)

  second : (a : State) (p : Result State Refusal) → FiniteState a → Other p → P (from_passive k a p)
  unfolding from_passive
  second a (Ok p) f o = point a (in_line_of k.mu p (angle_of a p)) f (line_other k.mu p (angle_of a p))
  second a (Err n) f o = no n (o n refl)

  both : (a p : Result State Refusal) → ((z : State) → a ≡ Ok z → FiniteState z) → Other a → Other p → P (from_active k a p)
  unfolding from_active
  both (Ok a) p f o q = second a p (f a refl) q
  both (Err n) p f o q = no n (o n refl)

  pub through : (active : State) (ta : ℤ) (passive : State) (tp t2 t3 : ℤ) → P (burn_of k active ta passive tp t2 t3)
  unfolding burn_of
  through active ta passive tp t2 t3 = go (ltb 1 k.body) (radius_allowed k.radius) (at_least t2 t3 60000)
    where
      go : (b r t : Bool) → P (cond b (Err Refusal.NotAllowed) (cond r (cond t (from_active k (at_time k.mu active ta t2) (at_time k.mu passive tp t2)) (Err Refusal.TooSoon)) (Err Refusal.SettingOutOfRange)))
      go true r t = no Refusal.NotAllowed (ne 14 refl)
      go false true true = both (at_time k.mu active ta t2) (at_time k.mu passive tp t2) (at-finite k.mu active ta t2) (at_other k.mu active ta t2) (at_other k.mu passive tp t2)
      go false true false = no Refusal.TooSoon (ne 25 refl)
      go false false t = no Refusal.SettingOutOfRange (ne 22 refl)

-- ---- no answer holds a NaN

abbrev pub NoNan : Vector → Type 0
NoNan v = (is_nan v.x ≡ false) × ((is_nan v.y ≡ false) × (is_nan v.z ≡ false))

abbrev pub Clean : Result Burn Refusal → Type 0
Clean (Ok (Closed d near far)) = NoNan d × ((is_nan near ≡ false) × (is_nan far ≡ false))
Clean (Ok (Open d near)) = NoNan d × (is_nan near ≡ false)
Clean (Err n) = Prim.Unit

judged-clean : (k : Centre) (d : Vector) (a : Apsides) → Apsides.Clean a → NoNan d → Clean (cleared_of k d a)
unfolding cleared_of
judged-clean k d (Ap.Closed near far) c h = go (clear_of k near)
  where
    go : (b : Bool) → Clean (cond b (Ok (Closed d near far)) (Err Refusal.TooLow))
    go true = (h, c)
    go false = tt
judged-clean k d (Ap.Open near) c h = go (clear_of k near)
  where
    go : (b : Bool) → Clean (cond b (Ok (Open d near)) (Err Refusal.TooLow))
    go true = (h, c)
    go false = tt
judged-clean k d (Ap.Refused n) c h = tt

-- the apsides' own row 4 makes the new velocity finite
new-finite : (mu : Float) (r new : Vector) → let s = state_of r new in first_failing (apsides_tests mu s (shape_of mu s)) ≡ Ok tt → Finite new
new-finite mu r new h =
    let s = state_of r new in
    let d = shape_of mu s in
    let I : List Entry = finite_inputs mu Position (position_of s) Velocity (velocity_of s) in
    let P : List Entry = position_row Position (position_of s) d.r1 in
    let W : List Entry = velocity_components Refusal.VelocityOutOfRange Velocity (velocity_of s) in
    let rows = met-left (I ++ state_rows mu s d.r1) (derived_row d ++ straight_row d.pn) (all_met_lem (apsides_tests mu s d) h) in
    velocity-finite Refusal.VelocityOutOfRange Velocity new (met-right (mu_row mu ++ P) W (met-right I (mu_row mu ++ P ++ W) rows))

changed-clean : (k : Centre) (a : State) (new : Vector) → FiniteState a → Clean (changed_of k a new)
unfolding changed_of answered cleared_of
changed-clean k a new f = go (first_failing (apsides_tests k.mu (state_of (position_of a) new) (shape_of k.mu (state_of (position_of a) new)))) refl
  where
    go : (t : Result Unit Entry) → first_failing (apsides_tests k.mu (state_of (position_of a) new) (shape_of k.mu (state_of (position_of a) new))) ≡ t
        → Clean (cleared_of k (difference_of new (velocity_of a)) (answered t (shape_of k.mu (state_of (position_of a) new))))
    go (Ok u) e =
        let s = state_of (position_of a) new in
        let n = new-finite k.mu (position_of a) new e in
        judged-clean k (difference_of new (velocity_of a)) (distances_of (shape_of k.mu s))
        (subst (λ (t : Result Unit Entry). Apsides.Clean (answered t (shape_of k.mu s))) e (Apsides.apsides-clean k.mu s))
        (difference-clean new.x a.vx n.x f.v.x, (difference-clean new.y a.vy n.y f.v.y, difference-clean new.z a.vz n.z f.v.z))
    go (Err x) e = tt

pub burn-clean : (k : Centre) (active : State) (ta : ℤ) (passive : State) (tp t2 t3 : ℤ) → Clean (burn_of k active ta passive tp t2 t3)
burn-clean k = through k Clean (λ n o. tt) (changed-clean k)

-- ---- 28

-- the pericentre of an answer is high enough
abbrev pub High : Centre → Result Burn Refusal → Type 0
High k (Ok (Closed d near far)) = clear_of k near ≡ true
High k (Ok (Open d near)) = clear_of k near ≡ true
High k (Err n) = Prim.Unit

judged-high : (k : Centre) (d : Vector) (a : Apsides) → High k (cleared_of k d a)
unfolding cleared_of
judged-high k d (Ap.Closed near far) = go (clear_of k near) refl
  where
    go : (b : Bool) → clear_of k near ≡ b → High k (cond b (Ok (Closed d near far)) (Err Refusal.TooLow))
    go true e = e
    go false e = tt
judged-high k d (Ap.Open near) = go (clear_of k near) refl
  where
    go : (b : Bool) → clear_of k near ≡ b → High k (cond b (Ok (Open d near)) (Err Refusal.TooLow))
    go true e = e
    go false e = tt
judged-high k d (Ap.Refused n) = tt

changed-high : (k : Centre) (a : State) (new : Vector) → High k (changed_of k a new)
unfolding changed_of
changed-high k a new = judged-high k (difference_of new (velocity_of a)) (apsides_of k.mu (state_of (position_of a) new))

pub burn-high : (k : Centre) (active : State) (ta : ℤ) (passive : State) (tp t2 t3 : ℤ) → High k (burn_of k active ta passive tp t2 t3)
burn-high k = through k (High k) (λ n o. tt) (λ a new f. changed-high k a new)

-- apsides whose pericentre is too low
abbrev pub Low : Centre → Apsides → Type 0
Low k (Ap.Closed near far) = clear_of k near ≡ false
Low k (Ap.Open near) = clear_of k near ≡ false
Low k (Ap.Refused n) = ⊥

judged-low : (k : Centre) (d : Vector) (a : Apsides) → Low k a → cleared_of k d a ≡ Err Refusal.TooLow
unfolding cleared_of
judged-low k d (Ap.Closed near far) h = ap (λ (b : Bool). cond b (Ok (Closed d near far)) (Err Refusal.TooLow)) h
judged-low k d (Ap.Open near) h = ap (λ (b : Bool). cond b (Ok (Open d near)) (Err Refusal.TooLow)) h
judged-low k d (Ap.Refused n) h = absurd h

-- they are refused with 28
pub low-refused : (k : Centre) (a : State) (new : Vector) → Low k (apsides_of k.mu (state_of (position_of a) new)) → changed_of k a new ≡ Err Refusal.TooLow
unfolding changed_of
low-refused k a new h = judged-low k (difference_of new (velocity_of a)) (apsides_of k.mu (state_of (position_of a) new)) h

-- b is 28's: the apsides after the change of a state are worked out, and too low
abbrev pub TooLow : Centre → Result Burn Refusal → Type 0
TooLow k b = (a : State) × ((new : Vector) × ((b ≡ changed_of k a new) × Low k (apsides_of k.mu (state_of (position_of a) new))))

refused-same : (m n : Refusal) → ◌≡◌ {A = Result Burn Refusal} (Err m) (Err n) → number_of m ≡ number_of n
refused-same m n e = ap number_of cc

judged-28 : (k : Centre) (d : Vector) (mu : Float) (s : State) (a : Apsides) → apsides_of mu s ≡ a → cleared_of k d a ≡ Err Refusal.TooLow → Low k a
unfolding cleared_of
judged-28 k d mu s (Ap.Closed near far) e h = go (clear_of k near) h
  where
    go : (b : Bool) → cond b (Ok (Closed d near far)) (Err Refusal.TooLow) ≡ Err Refusal.TooLow → b ≡ false
    go true q = let z : ◌≡◌ {A = ℕ} 0 1 = cc in absurd (zero_one z)
    go false q = refl
judged-28 k d mu s (Ap.Open near) e h = go (clear_of k near) h
  where
    go : (b : Bool) → cond b (Ok (Open d near)) (Err Refusal.TooLow) ≡ Err Refusal.TooLow → b ≡ false
    go true q = let z : ◌≡◌ {A = ℕ} 0 1 = cc in absurd (zero_one z)
    go false q = refl
judged-28 k d mu s (Ap.Refused n) e h = apsides-other mu s n e (refused-same n Refusal.TooLow h)

changed-28 : (k : Centre) (a : State) (new : Vector) → changed_of k a new ≡ Err Refusal.TooLow → TooLow k (changed_of k a new)
unfolding changed_of
changed-28 k a new h =
    let s = state_of (position_of a) new in
    (a, (new, (refl, judged-28 k (difference_of new (velocity_of a)) k.mu s (apsides_of k.mu s) refl h)))

-- 28 exactly where the pericentre is not over the surface by more than the body's limit
pub only-low : (k : Centre) (active : State) (ta : ℤ) (passive : State) (tp t2 t3 : ℤ)
    → burn_of k active ta passive tp t2 t3 ≡ Err Refusal.TooLow → TooLow k (burn_of k active ta passive tp t2 t3)
only-low k =
    through k (λ (b : Result Burn Refusal). b ≡ Err Refusal.TooLow → TooLow k b) (λ n o e. absurd (o (refused-same n Refusal.TooLow e))) (λ a new f. changed-28 k a new)

pub always-low : (k : Centre) (b : Result Burn Refusal) → TooLow k b → b ≡ Err Refusal.TooLow
always-low k b t = t.1.1.0 ∙ low-refused k t.0 t.1.0 t.1.1.1

-- ---- 14, 22 and 25 in this order, each in its case and no other, ahead of the advances

pub burn_number_lem : (k : Centre) (active : State) (ta : ℤ) (passive : State) (tp t2 t3 : ℤ)
    → burn_number (burn_of k active ta passive tp t2 t3)
    ≡ cond (ltb 1 k.body) 14
    (cond (radius_allowed k.radius) (cond (at_least t2 t3 60000) (burn_number (from_active k (at_time k.mu active ta t2) (at_time k.mu passive tp t2))) 25) 22)
unfolding burn_of burn_number
burn_number_lem k active ta passive tp t2 t3 =
    go (ltb 1 k.body) (radius_allowed k.radius) (at_least t2 t3 60000) (from_active k (at_time k.mu active ta t2) (at_time k.mu passive tp t2))
  where
    go : (a b c : Bool) (x : Result Burn Refusal) → burn_number (cond a (Err Refusal.NotAllowed) (cond b (cond c x (Err Refusal.TooSoon)) (Err Refusal.SettingOutOfRange))) ≡ cond a 14 (cond b (cond c (burn_number x) 25) 22)
    go true b c x = refl
    go false false c x = refl
    go false true true x = refl
    go false true false x = refl
