-- By the answer. Assumes nothing.
use Prim.Native.Nat.{ℕ}
use native.Mathlib.Omega.{arith}
use mathlib.Core.Path.{◌≡◌, sym, subst}
use mathlib.Core.List.{List}
use Rattle.text.specs.Text.{Put, decimal}
use Rattle.text.specs.Pieces.{then}
use Rattle.text.proofs.Lays.{one, and_then}
use Rattle.tracks.specs.Tracks.{answer_pieces_by}
use Rattle.tracks.proofs.answer.Goals as goal

put_as : {d : List ℕ} {at n m : ℕ} {e : List ℕ} {r : ℕ} → Put d at (decimal n) e r → n ≡ m → Put d at (decimal m) e r
put_as {d} {at} {e = e} {r = r} p is = subst (λ (k : ℕ). Put d at (decimal k) e r) is p

pub returns-in-Set : goal.returns-in-Set
unfolding answer_pieces_by
returns-in-Set g c = rw c.in-Set.is (one c.bytes.ensures)

pub returns-in-Done : goal.returns-in-Done
unfolding answer_pieces_by
returns-in-Done g c = rw c.in-Done.is (one c.bytes-in-Done.ensures)

pub returns-in-Off : goal.returns-in-Off
unfolding answer_pieces_by
returns-in-Off g c = rw c.in-Off.is (and_then c.labelled-a.ensures c.end.ensures)

pub returns-in-Refused : goal.returns-in-Refused
unfolding answer_pieces_by
returns-in-Refused g c =
    rw c.in-Refused.is (
    rw (sym c.to_number.ensures) (then c.bytes-a.ensures (then (put_as {m = c.to_number.result} c.number-b.ensures (omega arith)) (one c.byte.ensures)))
    )
