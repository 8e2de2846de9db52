-- A line at the front of a buffer that has the room, and a shorter buffer. Assumes nothing.
use Rattle.std.specs.Prelude.{Err, Ok, Result}
use Rattle.refusal.specs.declared.Refusal.{Refusal}
use Prim.Native.Nat.{ℕ, ◌≤◌, ◌<◌}
use native.Mathlib.Omega.{arith}
use mathlib.Core.Path.{◌≡◌, refl, ap, ◌∙◌}
use mathlib.Core.List.{List, ◌++◌}
use lib.ListN.{length, drop, length-append}
use borrow.Author.Tests.{lt-ltb, le-ltb}
use Rattle.text.specs.Text.{IfFits, InFront}
use Rattle.text.proofs.Stand.{at_front}

pub too_short : (room : ℕ) (x d : List ℕ) → length d < room → InFront room x d d (Err Refusal.NoRoom)
too_short room x d h = record { answer = rw (lt-ltb _ _ h) refl; buffer = rw (lt-ltb _ _ h) refl }

pub in_front_lem : {room : ℕ} {x d e : List ℕ} {r : ℕ} → room ≤ length d → length x ≤ room → IfFits d 0 x e r → InFront room x d e (Ok r)
in_front_lem h l p =
    let f = at_front (p (omega arith)) in
    record { answer = rw (le-ltb _ _ h) (ap Ok f.0); buffer = rw (le-ltb _ _ h) f.1 }

-- what a call on a long enough buffer made
pub long-enough : (room : ℕ) (x d e : List ℕ) (r : Result ℕ Refusal) → room ≤ length d → InFront room x d e r → (r ≡ Ok (length x)) × (e ≡ x ++ drop (length x) d)
long-enough room x d e r h m = (rw (le-ltb (length d) room h) at m.answer, rw (le-ltb (length d) room h) at m.buffer)

-- the line that is made lies within the buffer
pub line-inside : (room : ℕ) (x d e : List ℕ) (r : Result ℕ Refusal) (n : ℕ) → room ≤ length d → InFront room x d e r → r ≡ Ok n → n ≤ length e
line-inside room x d e r n h m q =
    let a = long-enough room x d e r h m in
    let l : r ≡ Ok (length x) = a.0 in
    let s : n ≡ length x = cc in
    omega (arith, ap length a.1 ∙ length-append x (drop (length x) d))
