-- Every line fits 512 bytes. Assumes nothing.
use Rattle.refusal.specs.Refusals.{number_of}
use Prim.Native.Nat.{ℕ, ◌+◌, ◌*◌, ◌≤◌}
use native.Mathlib.Omega.{arith}
use mathlib.Core.Path.{◌≡◌}
use mathlib.Core.List.{List, [], ◌∷◌}
use lib.ListN.{length, length-append}
use lib.Dec.{lit≤}
use lib.IntN.{ℤ}
use lib.Ieee.{Float}
use Rattle.text.specs.Text.{ascii, decimal}
use Rattle.text.specs.Pieces.{concat}
use Rattle.text.proofs.Decimals.{at_most}
use Rattle.text.proofs.Signs.{signed-short}
use Rattle.text.proofs.Lays.{size, concat-append}
use Rattle.columns.specs.Rows as Rows
use Rattle.columns.proofs.RowLaws.{end_short, labelled-short, refused-fits}
use Rattle.brackets.proofs.Lengths.{stopped-fits, place-judged}
use Rattle.limits.proofs.Lengths.{failed-short}
use Rattle.ends.proofs.Lengths.{amiss-fits}
use Rattle.table.specs.declared.Entry.{Entry as EntryOf}
use Rattle.iterator.specs.declared.Bracket.{Bracket}
use Rattle.reason.specs.declared.Stop.{Stop as StopOf}
use Rattle.reason.specs.declared.Reason.{Reason as ReasonOf}
use Rattle.reason.specs.Reasons.{Reason}
use Rattle.reason.specs.declared.Stop.TheVariants as S
use Rattle.reason.specs.declared.Neighbours.{Neighbours}
use Rattle.reason.specs.declared.Reason.TheVariants as R
use Rattle.reasons.specs.Lines.{test_pieces, stop_pieces, because_pieces, neighbour_pieces, timed_pieces, between_pieces, reason_pieces_by, reason_pieces}

test_short : {R : Type 0} (number : R → ℕ) (word : List ℕ) (e : EntryOf R) → size (test_pieces number word e) ≤ length word + 136
unfolding concat test_pieces
test_short number word e = simp (concat-append, length-append) (omega (arith, at_most 20 (number e.refusal), failed-short e))

-- ---- neighbours

stop-short : {R : Type 0} (s : StopOf R) → size (stop_pieces s) ≤ 107
unfolding concat
stop-short S.EndOfGrid = lit≤ tt
stop-short (S.Test e) = failed-short e

because-short : {R : Type 0} (s : StopOf R) → size (because_pieces s) ≤ 117
unfolding concat because_pieces
because-short s = simp (concat-append, length-append) (omega (arith, stop-short s))

neighbour-short : {R : Type 0} (lo : List ℕ) (b : Bracket) (s : StopOf R) → size (neighbour_pieces lo b s) ≤ length lo + 237
unfolding concat neighbour_pieces
neighbour-short lo b s =
    simp (concat-append, length-append) (
    omega (arith, place-judged b.lo b.below, place-judged b.hi b.above, at_most 20 b.count, because-short s)
    )

timed-short : (end : List ℕ) (n : ℤ) (t : Float) → size (timed_pieces end n t) ≤ length end + 48
unfolding concat timed_pieces
timed-short end n t = simp length-append (omega (arith, signed-short n, labelled-short (ascii " time") (t ∷ [])))

one_more : (x : List ℕ) (xs : List (List ℕ)) → size (x ∷ xs) ≡ length x + size xs
unfolding concat
one_more x xs = length-append x (concat xs)

tail-short : (count : ℕ) (xs : List Float) → size (ascii " count " ∷ decimal count ∷ Rows.end_pieces xs) ≤ 18 * length xs + 33
tail-short count xs =
    omega (
      arith,
      one_more (ascii " count ") (decimal count ∷ Rows.end_pieces xs),
      one_more (decimal count) (Rows.end_pieces xs),
      at_most 20 count,
      end_short xs,
    )

between-short : (n : Neighbours) → size (between_pieces n) ≤ 512
unfolding between_pieces
between-short n =
    simp (concat-append, length-append) (
    omega (
      arith,
      timed-short (ascii "solved lo ") n.lo n.below,
      timed-short (ascii " hi ") n.hi n.above,
      tail-short n.count (n.below ∷ n.above ∷ []),
    )
    )

-- ---- each reason

pub reason-by-fits : {R : Type 0} (number : R → ℕ) (r : ReasonOf R) → size (reason_pieces_by number r) ≤ 512
unfolding concat
reason-by-fits number (R.Test e) = omega (arith, test_short number (ascii " ") e)
reason-by-fits number (R.Amiss a) = amiss-fits a
reason-by-fits number (R.TooShort b s) = omega (arith, neighbour-short (ascii "refused 8 lo") b s)
reason-by-fits number (R.TooLong b s) = omega (arith, neighbour-short (ascii "refused 7 lo") b s)
reason-by-fits number (R.Range e) = omega (arith, test_short number (ascii " because ") e)
reason-by-fits number (R.NotFinished b) = stopped-fits b
reason-by-fits number (R.Settings n) = refused-fits (number n)
reason-by-fits number (R.Between n) = between-short n
reason-by-fits number R.Solved = lit≤ tt

pub reason-fits : (r : Reason) → size (reason_pieces r) ≤ 512
reason-fits r = reason-by-fits number_of r
