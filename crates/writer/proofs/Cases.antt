-- The three cases of writing. Assumes nothing.
use Rattle.std.specs.Prelude.{Err, Ok}
use Rattle.refusal.specs.declared.Refusal.TheVariants as Refusal
use Prim.Native.Nat.{ℕ, ◌+◌}
use mathlib.Core.Path.{◌≡◌, refl}
use mathlib.Core.List.{List, ◌++◌}
use mathlib.Core.Bool.{Bool, true, false, cond, not}
use lib.ListN.{length, take, drop}
use Rattle.writer.specs.Write.{has_room, written_for, left}

pick-14 : {X : Type 0} (a b : Bool) (p q r : X) → a ≡ false → p ≡ cond (not a) p (cond (not b) q r)
pick-14 a b p q r h = rw h refl

pick-15 : {X : Type 0} (a b : Bool) (p q r : X) → a ≡ true → b ≡ false → q ≡ cond (not a) p (cond (not b) q r)
pick-15 a b p q r h k = rw (h, k) refl

pick : {X : Type 0} (a b : Bool) (p q r : X) → a ≡ true → b ≡ true → r ≡ cond (not a) p (cond (not b) q r)
pick a b p q r h k = rw (h, k) refl

module _ (may : Bool) (d : List ℕ) (at n : ℕ) (x : List ℕ) where
  pub not-allowed : may ≡ false → (Err Refusal.NotAllowed ≡ written_for may d at n) × (d ≡ left may d at n x)
  not-allowed h =
      (pick-14 may (has_room at n (length d)) (Err Refusal.NotAllowed) (Err Refusal.NoRoom) (Ok (at + n)) h, pick-14 may (has_room at n (length d)) d d (take at d ++ (x ++ drop (at + n) d)) h)

  pub no_room : may ≡ true → has_room at n (length d) ≡ false → (Err Refusal.NoRoom ≡ written_for may d at n) × (d ≡ left may d at n x)
  no_room h k =
      (pick-15 may (has_room at n (length d)) (Err Refusal.NotAllowed) (Err Refusal.NoRoom) (Ok (at + n)) h k, pick-15 may (has_room at n (length d)) d d (take at d ++ (x ++ drop (at + n) d)) h k)

  pub stood : may ≡ true → has_room at n (length d) ≡ true → (Ok (at + n) ≡ written_for may d at n) × (take at d ++ (x ++ drop (at + n) d) ≡ left may d at n x)
  stood h k =
      (pick may (has_room at n (length d)) (Err Refusal.NotAllowed) (Err Refusal.NoRoom) (Ok (at + n)) h k, pick may (has_room at n (length d)) d d (take at d ++ (x ++ drop (at + n) d)) h k)
