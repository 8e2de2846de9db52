-- Why and the answer cannot disagree, by whatever version the request names: the reason's number is the answer's. Assumes nothing.
use Rattle.std.specs.Prelude.{Err, Ok, Result}
use Rattle.refusal.specs.declared.Refusal.{Refusal}
use Rattle.settings.specs.declared.allowed.Setting.{Setting}
use Prim.Native.Nat.{ℕ}
use mathlib.Core.Path.{◌≡◌, refl, sym, ◌∙◌}
use mathlib.Core.List.{List}
use lib.Ieee.{Float}
use Rattle.real.specs.F64.{size_of}
use Rattle.vector.specs.declared.Vector.{Vector}
use Rattle.vector.specs.declared.State.{State}
use Rattle.iterator.specs.declared.Beginning.{Beginning}
use Rattle.lambert.specs.declared.Way.{Way}
use Rattle.solve.specs.declared.Fractions.{Fractions}
use Rattle.solve.specs.declared.Advanced.TheVariants as Ad
use Rattle.solve.specs.declared.Transferred.TheVariants as Tr
use Rattle.solve.specs.Answers.{Advanced, Transferred, advance_to, transfer_velocity_to, advanced_number, transferred_number}
use Rattle.settings.specs.History.{look_up}
use Rattle.graded.specs.Graded.{fractions_of, graded_advanced, graded_transferred, advance_by, transfer_by}
use Rattle.reason.specs.Reasons.{reason_number}
use Rattle.why.specs.Why.{why_advance, why_transfer}
use Rattle.why.proofs.Laws.{advance-number, transfer-number}
use Rattle.forms.specs.declared.Version.{Version}
use Rattle.forms.specs.declared.Version.TheVariants.{Standard, Named}
use Rattle.inquiry.specs.Inquiry.{found_by, settled_by}
use Rattle.reply.specs.Replies.{advance_asked, transfer_asked}

-- a grade alters no number
advanced-same : (f : Fractions) (size : Float) (r : Advanced) → advanced_number (graded_advanced f size r) ≡ advanced_number r
unfolding advanced_number graded_advanced
advanced-same f size (Ad.Found s x w) = refl
advanced-same f size Ad.TooLong = refl
advanced-same f size (Ad.NotFinished b) = refl
advanced-same f size (Ad.Refused n) = refl

transferred-same : (f : Fractions) (size : Float) (r : Transferred) → transferred_number (graded_transferred f size r) ≡ transferred_number r
unfolding transferred_number graded_transferred
transferred-same f size (Tr.Found v x) = refl
transferred-same f size Tr.TooLong = refl
transferred-same f size Tr.TooShort = refl
transferred-same f size (Tr.NotFinished b) = refl
transferred-same f size (Tr.Refused n) = refl

pub advance-agrees : (used : List ℕ) (v : Version) (mu : Float) (s : State) (t : Float) (limit : ℕ) (g : Beginning)
    → reason_number (settled_by used v (why_advance mu s t limit g)) ≡ advanced_number (advance_asked used v mu s t limit g)
unfolding settled_by found_by advance_asked advance_by reason_number advanced_number
advance-agrees used Standard mu s t limit g = advance-number mu s t limit g
advance-agrees used (Named k) mu s t limit g = go (look_up used k)
  where
    go : (l : Result Setting Refusal) → reason_number (found_by l (why_advance mu s t limit g)) ≡ advanced_number (advance_by l mu s t limit g)
    go (Ok x) = advance-number mu s t limit g ∙ sym (advanced-same (fractions_of x) (size_of t) (advance_to mu s t limit g))
    go (Err n) = refl

pub transfer-agrees : (used : List ℕ) (v : Version) (mu : Float) (first second : Vector) (way : Way) (t : Float) (limit : ℕ) (g : Beginning)
    → reason_number (settled_by used v (why_transfer mu first second way t limit g)) ≡ transferred_number (transfer_asked used v mu first second way t limit g)
unfolding settled_by found_by transfer_asked transfer_by reason_number transferred_number
transfer-agrees used Standard mu first second way t limit g = transfer-number mu first second way t limit g
transfer-agrees used (Named k) mu first second way t limit g = go (look_up used k)
  where
    go : (l : Result Setting Refusal) → reason_number (found_by l (why_transfer mu first second way t limit g)) ≡ transferred_number (transfer_by l mu first second way t limit g)
    go (Ok x) = transfer-number mu first second way t limit g ∙ sym (transferred-same (fractions_of x) t (transfer_velocity_to mu first second way t limit g))
    go (Err n) = refl
