-- Every line fits 512 bytes, and every list 16,384. Assumes nothing.
use Rattle.std.specs.Prelude.{Err, Ok, Result}
use Rattle.refusal.specs.declared.Refusal.{Refusal}
use Rattle.refusal.specs.Refusals.{number_of}
use Prim.Native.Nat.{ℕ, zero, suc, ◌*◌, ◌≤◌, zero-le}
use native.Mathlib.Omega.{arith}
use mathlib.Core.Bool.{Bool, true, false, cond}
use mathlib.Core.List.{List, [], ◌∷◌}
use lib.ListN.{length-append}
use lib.Dec.{eqb}
use Rattle.text.specs.Text.{ascii}
use Rattle.text.specs.Pieces.{concat}
use Rattle.text.proofs.Lays.{size, concat-append}
use Rattle.text.proofs.Decimals.{at_most}
use Rattle.columns.specs.Rows.{refused_pieces}
use Rattle.columns.proofs.RowLaws.{end_short, labelled-short, refused-fits}
use Rattle.settings.specs.declared.allowed.Setting.{Setting}
use Rattle.settings.specs.History.{look_up}
use Rattle.versions.specs.Versions.{constant_pieces, version_pieces, looked_pieces, found_then, version_lines, list_by}

constants-short : (x : Setting) → size (constant_pieces x) ≤ 188
unfolding constant_pieces
constants-short x =
    simp (concat-append, length-append)
    (omega (
      arith,
      labelled-short (ascii " mu") (x.mu ∷ []),
      labelled-short (ascii " radius") (x.radius ∷ []),
      labelled-short (ascii " closed") (x.closed ∷ []),
      labelled-short (ascii " fair") (x.fair ∷ []),
      end_short (x.mu ∷ x.radius ∷ x.closed ∷ x.fair ∷ []),
    ))

version-short : (k : ℕ) (x : Setting) → size (version_pieces k x) ≤ 242
unfolding concat version_pieces
version-short k x = simp length-append (omega (arith, at_most 20 k, at_most 20 x.body, constants-short x))

pub looked-fits : (k : ℕ) (l : Result Setting Refusal) → size (looked_pieces k l) ≤ 512
looked-fits k (Ok x) = omega (arith, version-short k x)
looked-fits k (Err n) = refused-fits (number_of n)

found-short : (l : Result Setting Refusal) (k n : ℕ) (rest : List (List ℕ)) → size rest ≤ 242 * n → size (found_then l k rest) ≤ 242 * suc n
unfolding concat
found-short (Ok x) k n rest h = simp (concat-append, length-append) (omega (arith, version-short k x))
found-short (Err m) k n rest h = zero-le

lines-short : (n k : ℕ) (s : List ℕ) → size (version_lines n k s) ≤ 242 * n
unfolding version_lines concat
lines-short zero k s = zero-le
lines-short (suc n) k s = found-short (look_up s k) k n (version_lines n (suc k) s) (lines-short n (suc k) s)

refused-list : (b : Bool) (n : ℕ) → size (cond b [] (refused_pieces n)) ≤ 16384
unfolding concat
refused-list true n = zero-le
refused-list false n = omega (arith, refused-fits n)

pub list-fits : (l : Result Setting Refusal) (s : List ℕ) → size (list_by l s) ≤ 16384
unfolding list_by
list-fits (Ok x) s = omega (arith, lines-short 64 1 s)
list-fits (Err n) s = refused-list (eqb (number_of n) 23) (number_of n)
