-- A session as document 01 knows it, without an offset's record and with no time over 2^53, has 01's listing to the byte.
-- Assumes nothing.
use Rattle.refusal.specs.Refusals.{number_of}
use Prim.Native.Nat.{ℕ, zero, suc, ◌+◌}
use mathlib.Core.Path.{◌≡◌, refl, sym, ap, ◌∙◌}
use mathlib.Core.List.{List, [], ◌∷◌}
use lib.ListN.{length}
use lib.IntN.{ℤ, pos, +ℤ_idr}
use Rattle.session.specs.declared.Reading.{Reading}
use Rattle.session.specs.declared.Reading.TheVariants.{Record, Offset, End, Refused}
use Rattle.session.specs.Layout.{kind_in, vehicle_in, time_in}
use Rattle.session.specs.Read.{start}
use Rattle.session.proofs.Before.{read-01, as_before, Plain, plain, Reached, first, next, Old}
use Rattle.lines.specs.Days.{local_of}
use Rattle.lines.specs.Lines.{heading_text, event_text, refused_text}
use Rattle.report.specs.declared.Next.{Next}
use Rattle.report.specs.declared.Next.TheVariants.{Heading, At, Done}
use Rattle.report.specs.Listing.{Step, step_for, step_at, steps_in, text_of, listing_of}

-- the listing of 01: the lines of what its reader reads, the time as it was recorded
abbrev pub for-01 : Reading → Step
for-01 (Record r p) = record { line = event_text (time_in r) (vehicle_in r) (kind_in r); next = At p }
for-01 (Offset p) = record { line = []; next = Done }
for-01 End = record { line = []; next = Done }
for-01 (Refused n p) = record { line = refused_text (number_of n) p.at; next = Done }

abbrev pub step-01 : List ℕ → Next → Step
step-01 s Heading = record { line = heading_text; next = At start }
step-01 s (At p) = for-01 (read-01 s p.at)
step-01 s Done = record { line = []; next = Done }

unfoldable pub steps-01 : ℕ → List ℕ → Next → List Step
steps-01 zero s n = []
steps-01 (suc f) s Heading = step-01 s Heading ∷ steps-01 f s (step-01 s Heading).next
steps-01 (suc f) s (At p) = step-01 s (At p) ∷ steps-01 f s (step-01 s (At p)).next
steps-01 (suc f) s Done = []

abbrev pub listing-01 : List ℕ → List ℕ
listing-01 s = text_of (steps-01 (length s + 2) s Heading)

-- a line of what 01 reads
same_line : (a : Reading) → Plain a → step_for a ≡ for-01 a
same_line (Record r q) e =
    ap (λ (t : ℤ). record { line = event_text t (vehicle_in r) (kind_in r); next = At q }) (ap (local_of (time_in r)) e ∙ +ℤ_idr (time_in r))
same_line (Offset q) e = absurd e
same_line End e = refl
same_line (Refused n q) e = refl

module _ (s : List ℕ) (old : Old s) where
  -- where the listing stands
  abbrev Stands : Next → Type 0
  Stands Heading = Unit {0}
  Stands (At p) = (p.offset ≡ pos 0) × Reached s p.at
  Stands Done = Unit {0}

  goes_on : (a : Reading) (at : ℕ) → Reached s at → a ≡ read-01 s at → Plain a → Stands (for-01 a).next
  goes_on (Record r q) at h e p = (p, next h (sym e))
  goes_on (Offset q) at h e p = absurd p
  goes_on End at h e p = tt
  goes_on (Refused n q) at h e p = tt

  same_step : (at : ℕ) (o : ℤ) → o ≡ pos 0 → Reached s at → step_at s (record { at = at; offset = o }) ≡ for-01 (read-01 s at)
  same_step at o e h =
      ap (λ (z : ℤ). step_at s (record { at = at; offset = z })) e
      ∙ ap step_for (as_before s at (old.kinds at h) (old.times at h))
      ∙ same_line (read-01 s at) (plain s at)

  same-steps : (f : ℕ) (n : Next) → Stands n → steps_in f s n ≡ steps-01 f s n
  unfolding steps_in steps-01
  same-steps zero n h = refl
  same-steps (suc f) Heading h = ap (λ (ts : List Step). step-01 s Heading ∷ ts) (same-steps f (At start) (refl, first))
  same-steps (suc f) (At p) h =
      let e = same_step p.at p.offset h.0 h.1 in
      ap (λ (t : Step). t ∷ steps_in f s t.next) e
      ∙ ap (λ (ts : List Step). step-01 s (At p) ∷ ts)
      (same-steps f (step-01 s (At p)).next (goes_on (read-01 s p.at) p.at h.1 refl (plain s p.at)))
  same-steps (suc f) Done h = refl

  pub listed-as-before : listing_of s ≡ listing-01 s
  listed-as-before = ap text_of (same-steps (length s + 2) Heading tt)
