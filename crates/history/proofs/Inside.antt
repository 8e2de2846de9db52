-- A line that is made lies within its buffer, and so does a version that was stored. Assumes nothing.
use Rattle.std.specs.Prelude.{Err, Ok, Result}
use Rattle.refusal.specs.declared.Refusal.{Refusal}
use Prim.Native.Nat.{ℕ, ◌≤◌}
use native.Mathlib.Omega.{arith}
use mathlib.Core.Path.{◌≡◌, sym}
use mathlib.Core.List.{List}
use lib.ListN.{length}
use Rattle.text.specs.Pieces.{concat, Laid}
use Rattle.text.proofs.Stand.{same_size}
use Rattle.text.proofs.Lays.{all_fit}
use Rattle.settings.specs.declared.allowed.Setting.{Setting}
use Rattle.settings.specs.History.{stored_of, back_of}
use Rattle.settings.proofs.Laws.{stored-within, back-within}
use Rattle.history.specs.Within.{Within}

pub laid-inside : {d : List ℕ} {xs : List (List ℕ)} {e : List ℕ} {r : ℕ} → Laid d 0 xs e r → length (concat xs) ≤ length d → r ≤ length e
laid-inside l h = let p = all_fit l (omega (arith, h)) in omega (arith, p.within, same_size p)

module _ (d : List ℕ) (used : ℕ) (e : List ℕ) (same : length e ≡ length d) where
  pub store-inside : (x : Setting) (r : Result (ℕ × ℕ) Refusal) → r ≡ stored_of d used x → Within r e
  store-inside x (Ok (k, r)) h = omega (arith, same, stored-within d used x k r (sym h))
  store-inside x (Err n) h = tt

  pub back_inside : (j : ℕ) (r : Result (ℕ × ℕ) Refusal) → r ≡ back_of d used j → Within r e
  back_inside j (Ok (k, r)) h = omega (arith, same, back-within d used j k r (sym h))
  back_inside j (Err n) h = tt
