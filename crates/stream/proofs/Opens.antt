-- The tests of an open reader, and what they leave. Assumes nothing.
use Rattle.refusal.specs.declared.Refusal.TheVariants as Refusal
use Prim.Native.Nat.{ℕ, ◌+◌, ◌-◌, ◌≤◌, ◌<◌}
use native.Mathlib.Nat.{add-zero}
use native.Mathlib.Omega.{arith}
use mathlib.Core.Path.{◌≡◌, refl, sym, ap, ◌∙◌}
use mathlib.Core.List.{List, [], ◌++◌, append-nil}
use mathlib.Core.Bool.{Bool, true, false}
use lib.ListN.{length, take, drop, length-drop, take-append-drop}
use lib.Seq.{length-take-le, take-nil}
use lib.Dec.{ltb, eqb}
use borrow.Author.Tests.{lt-ltb, le-ltb, ltb-true, ltb-false}
use Rattle.facts.proofs.Truth.{each}
use Rattle.facts.proofs.Lists.{empty-list}
use Rattle.session.specs.declared.record.Decoded.{Decoded}
use Rattle.session.specs.declared.record.Decoded.TheVariants as D
use Rattle.session.specs.declared.Place.{Place}
use Rattle.session.specs.Limits.{offset_allowed}
use Rattle.stream.specs.declared.Standing.TheVariants.{Open, Refused}
use Rattle.stream.specs.declared.Step.{Step}
use Rattle.stream.specs.declared.Step.TheVariants as S
use Rattle.stream.specs.Stream.{most_bytes, found_at, move_for, is_cut, is_sound, step_in, step_on, room_on, opened, step_open, room_open}
use Rattle.stream.proofs.Cut.{short}
use Rattle.stream.proofs.Steps.{cut-eleven, front_long}

-- a state that the tests let pass
pub record Sound (p : Place) (k : ℕ) (d : List ℕ) : Type 0 where
  pub fits : k ≤ 61
  pub unfinished : found_at p (take k d) ≡ D.Refused Refusal.CutShort
  pub allowed : offset_allowed p.offset ≡ true

few : (k : ℕ) (d : List ℕ) → 62 ≤ length d → length (take k d) < 62 → (b : Bool) → ltb 61 k ≡ b → k ≤ 61
few k d h l true e = let w : ⊥ = omega (arith, front_long k d h (ltb-true 61 k e)) in absurd w
few k d h l false e = ltb-false 61 k e

module _ (p : Place) (k : ℕ) (d : List ℕ) where
  pub sound-by : 62 ≤ length d → found_at p (take k d) ≡ D.Refused Refusal.CutShort → offset_allowed p.offset ≡ true → Sound p k d
  sound-by h e o = record { fits = few k d h (short (eqb p.at 0) (take k d) e) (ltb 61 k) refl; unfinished = e; allowed = o }

  pub sound : 62 ≤ length d → is_sound p (take k d) ≡ true → Sound p k d
  sound h s =
      let b = each (offset_allowed p.offset) (is_cut (found_at p (take k d))) s in
      sound-by h (cut-eleven (found_at p (take k d)) b.1) b.0

  pub is_sound_lem : Sound p k d → is_sound p (take k d) ≡ true
  is_sound_lem s = rw (s.allowed, s.unfinished) refl

  module _ (part : List ℕ) (from : ℕ) where
    count : (b : Bool) → ltb most_bytes (p.at + k + (length part - from)) ≡ b → ltb most_bytes (p.at + k + length (drop from part)) ≡ b
    count b e = ap (λ (j : ℕ). ltb most_bytes (p.at + k + j)) (length-drop from part) ∙ e

    -- each test
    module _ {X : Type 0} (x y z : X) where
      over : ltb most_bytes (p.at + k + (length part - from)) ≡ true → x ≡ opened p k d part from x y z
      over e = rw (count true e) refl

      small : ltb most_bytes (p.at + k + (length part - from)) ≡ false → length d < 62 → x ≡ opened p k d part from x y z
      small e h = rw (count false e, lt-ltb (length d) 62 h) refl

      unsound : ltb most_bytes (p.at + k + (length part - from)) ≡ false → 62 ≤ length d → is_sound p (take k d) ≡ false → y ≡ opened p k d part from x y z
      unsound e h s = rw (count false e, le-ltb (length d) 62 h, s) refl

      passed : ltb most_bytes (p.at + k + (length part - from)) ≡ false → 62 ≤ length d → is_sound p (take k d) ≡ true → z ≡ opened p k d part from x y z
      passed e h s = rw (count false e, le-ltb (length d) 62 h, s) refl

    abbrev u : Step
    u = S.Stopped (Refused 15 p.at)

    abbrev v : Step
    v = S.Stopped (Refused 14 p.at)

    pub is-over : ltb most_bytes (p.at + k + (length part - from)) ≡ true
        → (S.Stopped (Refused 15 p.at) ≡ step_open p k d part from) × (d ≡ room_open p k d part from)
    is-over e = (over u v (step_on p k d part from) e, over d d (room_on k d part from) e)

    pub is-small : ltb most_bytes (p.at + k + (length part - from)) ≡ false → length d < 62
        → (S.Stopped (Refused 15 p.at) ≡ step_open p k d part from) × (d ≡ room_open p k d part from)
    is-small e h = (small u v (step_on p k d part from) e h, small d d (room_on k d part from) e h)

    pub is-unsound : ltb most_bytes (p.at + k + (length part - from)) ≡ false → 62 ≤ length d → is_sound p (take k d) ≡ false
        → (S.Stopped (Refused 14 p.at) ≡ step_open p k d part from) × (d ≡ room_open p k d part from)
    is-unsound e h s = (unsound u v (step_on p k d part from) e h s, unsound d d (room_on k d part from) e h s)

    pub is-passed : ltb most_bytes (p.at + k + (length part - from)) ≡ false → 62 ≤ length d → is_sound p (take k d) ≡ true
        → (step_on p k d part from ≡ step_open p k d part from) × (room_on k d part from ≡ room_open p k d part from)
    is-passed e h s = (passed u v (step_on p k d part from) e h s, passed d d (room_on k d part from) e h s)

    -- with no byte left the reader waits
    none_left : length part ≤ from → drop from part ≡ []
    none_left h = empty-list (drop from part) (omega (arith, length-drop from part))

    pub is-empty : Sound p k d → 62 ≤ length d → length part ≤ from → (S.Stopped (Open p k) ≡ step_on p k d part from) × (d ≡ room_on k d part from)
    is-empty s h l =
        let e = none_left l in
        let a : found_at p (take k d ++ []) ≡ D.Refused Refusal.CutShort = ap (found_at p) (append-nil (take k d)) ∙ s.unfinished in
        let z : length (take k d ++ []) ≡ k = ap length (append-nil (take k d)) ∙ length-take-le k d (omega (arith, s.fits)) in (
          ap (λ (j : ℕ). S.Stopped (Open p j)) (sym z)
              ∙ sym (ap (λ (r : List ℕ). step_in from (move_for (found_at p (take k d ++ take (62 - length (take k d)) r)) p (take k d) r)) e
              ∙ ap (λ (r : List ℕ). step_in from (move_for (found_at p (take k d ++ r)) p (take k d) [])) (take-nil {A = ℕ} (62 - length (take k d)))
              ∙ ap (λ (q : Decoded). step_in from (move_for q p (take k d) [])) a),
          sym (ap (λ (r : List ℕ). take k d ++ (take (62 - k) r ++ drop (k + length (take (62 - k) r)) d)) e
              ∙ ap (λ (r : List ℕ). take k d ++ (r ++ drop (k + length r) d)) (take-nil {A = ℕ} (62 - k))
              ∙ ap (λ (j : ℕ). take k d ++ drop j d) (add-zero k)
              ∙ take-append-drop k d),
        )
