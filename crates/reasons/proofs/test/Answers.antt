-- The number, the word and the test. Assumes nothing.
use Prim.Native.Nat.{ℕ}
use native.Mathlib.Omega.{arith}
use mathlib.Core.Path.{◌≡◌, subst}
use mathlib.Core.List.{List}
use Rattle.text.specs.Text.{Put, decimal}
use Rattle.text.specs.Pieces.{then}
use Rattle.text.proofs.Lays.{one, and_then}
use Rattle.reasons.specs.Lines.{test_pieces}
use Rattle.reasons.proofs.test.Goals as goal

put_as : {d : List ℕ} {at n m : ℕ} {e : List ℕ} {r : ℕ} → Put d at (decimal n) e r → n ≡ m → Put d at (decimal m) e r
put_as {d} {at} {e = e} {r = r} p is = subst (λ (k : ℕ). Put d at (decimal k) e r) is p

pub returns : goal.returns
unfolding test_pieces
returns g c =
    then c.bytes-a.ensures (then (put_as c.number-b.ensures (omega arith)) (then c.bytes-c.ensures (and_then c.failed-d.ensures (one c.byte.ensures))))
