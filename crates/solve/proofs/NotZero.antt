-- A refusal of a solve has a number: none is 0, which says that there is an answer. Assumes nothing.
use Rattle.std.specs.Prelude.{◌≡◌, ℕ, Float}
use Rattle.std.proofs.Common.{arith}
use Rattle.refusal.specs.Refusals.{number_of}
use Rattle.refusal.proofs.Numbers.{some_number}
use Rattle.vector.specs.declared.Vector.{Vector}
use Rattle.vector.specs.declared.State.{State}
use Rattle.iterator.specs.declared.Beginning.{Beginning}
use Rattle.lambert.specs.declared.Way.{Way}
use Rattle.solve.specs.declared.Advanced.TheVariants as Ad
use Rattle.solve.specs.declared.Transferred.TheVariants as Tr
use Rattle.solve.specs.Answers.{Advanced, Transferred, advance_of, advance_to, transfer_velocity_of, transfer_velocity_to}

-- ---- the advance

abbrev pub AdvancedNumbered : Advanced → Type 0
AdvancedNumbered (Ad.Found s x w) = Prim.Unit
AdvancedNumbered Ad.TooLong = Prim.Unit
AdvancedNumbered (Ad.NotFinished b) = Prim.Unit
AdvancedNumbered (Ad.Refused n) = number_of n ≡ 0 → ⊥

advanced-numbered : (a : Advanced) → AdvancedNumbered a
advanced-numbered (Ad.Found s x w) = tt
advanced-numbered Ad.TooLong = tt
advanced-numbered (Ad.NotFinished b) = tt
advanced-numbered (Ad.Refused n) = λ e. omega (arith, some_number n)

pub advance-numbered : (mu : Float) (s : State) (t : Float) → AdvancedNumbered (advance_of mu s t)
advance-numbered mu s t = advanced-numbered (advance_of mu s t)

pub advance-to-numbered : (mu : Float) (s : State) (t : Float) (limit : ℕ) (g : Beginning) → AdvancedNumbered (advance_to mu s t limit g)
advance-to-numbered mu s t limit g = advanced-numbered (advance_to mu s t limit g)

-- ---- the transfer

abbrev pub TransferredNumbered : Transferred → Type 0
TransferredNumbered (Tr.Found v x) = Prim.Unit
TransferredNumbered Tr.TooLong = Prim.Unit
TransferredNumbered Tr.TooShort = Prim.Unit
TransferredNumbered (Tr.NotFinished b) = Prim.Unit
TransferredNumbered (Tr.Refused n) = number_of n ≡ 0 → ⊥

transferred-numbered : (a : Transferred) → TransferredNumbered a
transferred-numbered (Tr.Found v x) = tt
transferred-numbered Tr.TooLong = tt
transferred-numbered Tr.TooShort = tt
transferred-numbered (Tr.NotFinished b) = tt
transferred-numbered (Tr.Refused n) = λ e. omega (arith, some_number n)

pub transfer-numbered : (mu : Float) (first second : Vector) (way : Way) (t : Float) → TransferredNumbered (transfer_velocity_of mu first second way t)
transfer-numbered mu first second way t = transferred-numbered (transfer_velocity_of mu first second way t)

pub transfer-to-numbered : (mu : Float) (first second : Vector) (way : Way) (t : Float) (limit : ℕ) (g : Beginning)
    → TransferredNumbered (transfer_velocity_to mu first second way t limit g)
transfer-to-numbered mu first second way t limit g = transferred-numbered (transfer_velocity_to mu first second way t limit g)
