-- With 01's fractions in the version that is named, every answer is what it is without one. Assumes nothing.
use Rattle.std.specs.Prelude.{Ok, Result}
use Rattle.refusal.specs.declared.Refusal.{Refusal}
use Prim.Native.Nat.{ℕ}
use mathlib.Core.Path.{◌≡◌, refl, sym, ap, ◌∙◌}
use mathlib.Core.List.{List}
use lib.Ieee.{Float}
use Rattle.real.specs.F64.{two^-, size_of}
use Rattle.vector.specs.declared.Vector.{Vector}
use Rattle.vector.specs.declared.State.{State}
use Rattle.iterator.specs.declared.Beginning.{Beginning}
use Rattle.lambert.specs.declared.Way.{Way}
use Rattle.solve.specs.Answers.{Advanced, Transferred, standard_fractions, advance_to, transfer_velocity_to}
use Rattle.solve.specs.declared.Fractions.{Fractions}
use Rattle.solve.specs.declared.Grade.{Grade}
use Rattle.solve.specs.declared.Solution.{Solution}
use Rattle.solve.specs.declared.Advanced.TheVariants as Ad
use Rattle.solve.specs.declared.Transferred.TheVariants as Tr
use Rattle.solve.proofs.Grades.{Own, OwnAdvanced, OwnTransferred, advance-own, transfer-own}
use Rattle.settings.specs.declared.allowed.Setting.{Setting}
use Rattle.settings.specs.History.{look_up}
use Rattle.graded.specs.Graded.{fractions_of, graded, graded_advanced, graded_transferred, advance_by, transfer_by, graded_advance, graded_transfer}

own-graded : (size : Float) (x : Solution) → Own size x → graded standard_fractions size x ≡ x
own-graded size x e = ap (λ (y : Grade). record { n = x.n; t = x.t; err = x.err; grade = y; count = x.count }) (sym e)

advanced-same : (size : Float) (r : Advanced) → OwnAdvanced size r → graded_advanced standard_fractions size r ≡ r
unfolding graded_advanced
advanced-same size (Ad.Found s x w) e = ap (λ (y : Solution). Ad.Found s y w) (own-graded size x e)
advanced-same size Ad.TooLong e = refl
advanced-same size (Ad.NotFinished b) e = refl
advanced-same size (Ad.Refused n) e = refl

transferred-same : (size : Float) (r : Transferred) → OwnTransferred size r → graded_transferred standard_fractions size r ≡ r
unfolding graded_transferred
transferred-same size (Tr.Found v x) e = ap (Tr.Found v) (own-graded size x e)
transferred-same size Tr.TooLong e = refl
transferred-same size Tr.TooShort e = refl
transferred-same size (Tr.NotFinished b) e = refl
transferred-same size (Tr.Refused n) e = refl

-- ---- version k of the used part has 01's fractions

pub record Standard (used : List ℕ) (k : ℕ) : Type 0 where
  pub setting : Setting
  pub found : look_up used k ≡ Ok setting
  pub closed : setting.closed ≡ two^- 20
  pub fair : setting.fair ≡ two^- 10

module _ (used : List ℕ) (k : ℕ) (h : Standard used k) where
  same : fractions_of h.setting ≡ standard_fractions
  same =
      ap (λ (x : Float). record { closed = x; fair = h.setting.fair }) h.closed
      ∙ ap (λ (x : Float). record { closed = two^- 20; fair = x }) h.fair

  pub standard-advance : (mu : Float) (s : State) (t : Float) (limit : ℕ) (g : Beginning) → graded_advance used k mu s t limit g ≡ advance_to mu s t limit g
  unfolding advance_by
  standard-advance mu s t limit g =
      ap (λ (l : Result Setting Refusal). advance_by l mu s t limit g) h.found
      ∙ ap (λ (f : Fractions). graded_advanced f (size_of t) (advance_to mu s t limit g)) same
      ∙ advanced-same (size_of t) (advance_to mu s t limit g) (advance-own mu s t limit g)

  pub standard-transfer : (mu : Float) (first second : Vector) (way : Way) (t : Float) (limit : ℕ) (g : Beginning)
      → graded_transfer used k mu first second way t limit g ≡ transfer_velocity_to mu first second way t limit g
  unfolding transfer_by
  standard-transfer mu first second way t limit g =
      ap (λ (l : Result Setting Refusal). transfer_by l mu first second way t limit g) h.found
      ∙ ap (λ (f : Fractions). graded_transferred f t (transfer_velocity_to mu first second way t limit g)) same
      ∙ transferred-same t (transfer_velocity_to mu first second way t limit g) (transfer-own mu first second way t limit g)
