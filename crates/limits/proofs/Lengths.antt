-- A test that fails is told in at most 107 bytes. Assumes nothing.
use Prim.Native.Nat.{ℕ, ◌-◌, ◌/◌, ◌^◌, ◌≤◌}
use native.Mathlib.Omega.{arith}
use mathlib.Core.Bool.{Bool, true, false, cond}
use mathlib.Core.List.{List, [], ◌∷◌}
use lib.ListN.{length, length-append}
use lib.Dec.{leb, lit≤}
use lib.Ieee.{Float, binary64, eq, to_bits}
use Rattle.real.specs.F64.{bits}
use Rattle.text.specs.Text.{ascii, decimal}
use Rattle.text.specs.Pieces.{concat}
use Rattle.text.proofs.Decimals.{at_most}
use Rattle.text.proofs.Lays.{size, concat-append}
use Rattle.figures.specs.Figures.{fixed_of}
use Rattle.figures.proofs.Places.{places-length}
use Rattle.figures.proofs.Lengths.{fixed-short}
use Rattle.table.specs.declared.Limit.{Limit}
use Rattle.table.specs.declared.Limit.TheVariants.{Finite, AtLeast, AtMost, Under, Over, SizeAtMost, SizeUnder, OneWithin}
use Rattle.table.specs.declared.Entry.{Entry as EntryOf}
use Rattle.names.proofs.Lengths.{name-short}
use Rattle.limits.specs.Limits.{is_power, power_pieces, other_pieces, bound_pieces, limit_pieces, exact_of, amount_pieces, failed_pieces}

either : (b : Bool) (xs ys : List (List ℕ)) → size xs ≤ 23 → size ys ≤ 23 → size (cond b xs ys) ≤ 23
either true xs ys p q = p
either false xs ys p q = q

power-short : (e : ℕ) → size (power_pieces e) ≤ 23
unfolding concat power_pieces
power-short e =
    either (leb 1023 e) (ascii "2^" ∷ decimal (e - 1023) ∷ []) (ascii "2^-" ∷ decimal (1023 - e) ∷ [])
    (simp length-append (omega (arith, at_most 20 (e - 1023))))
    (simp length-append (omega (arith, at_most 20 (1023 - e))))

other-short : (x : Float) → size (other_pieces x) ≤ 23
unfolding concat other_pieces
other-short x =
    either (is_power (to_bits binary64 x)) (power_pieces (to_bits binary64 x / 2 ^ 52)) (fixed_of x ∷ []) (power-short (to_bits binary64 x / 2 ^ 52))
    (simp length-append (omega (arith, fixed-short x)))

bound-short : (x : Float) → size (bound_pieces x) ≤ 23
unfolding concat bound_pieces
bound-short x =
    either (eq x (bits 0)) (ascii "0" ∷ [])
    (cond (eq x (bits 0x4044_0000_0000_0000)) (ascii "40" ∷ []) (cond (eq x (bits 0xC049_0000_0000_0000)) (ascii "-50" ∷ []) (other_pieces x))) (lit≤ tt)
    (either (eq x (bits 0x4044_0000_0000_0000)) (ascii "40" ∷ []) (cond (eq x (bits 0xC049_0000_0000_0000)) (ascii "-50" ∷ []) (other_pieces x)) (lit≤ tt)
    (either (eq x (bits 0xC049_0000_0000_0000)) (ascii "-50" ∷ []) (other_pieces x) (lit≤ tt) (other-short x)))

limit-short : (l : Limit) → size (limit_pieces l) ≤ 40
unfolding concat
limit-short Finite = lit≤ tt
limit-short (AtLeast b) = simp length-append (omega (arith, bound-short b))
limit-short (AtMost b) = simp length-append (omega (arith, bound-short b))
limit-short (Under b) = simp length-append (omega (arith, bound-short b))
limit-short (Over b) = simp length-append (omega (arith, bound-short b))
limit-short (SizeAtMost b) = simp (concat-append, length-append) (omega (arith, bound-short b))
limit-short (SizeUnder b) = simp (concat-append, length-append) (omega (arith, bound-short b))
limit-short (OneWithin b) = simp length-append (omega (arith, bound-short b))

exact-short : (x : Float) → length (exact_of x) ≤ 17
unfolding exact_of
exact-short x = omega (arith, places-length 16 16 (to_bits binary64 x))

amount-short : (x : Float) → size (amount_pieces x) ≤ 31
unfolding concat amount_pieces
amount-short x = simp length-append (omega (arith, fixed-short x))

pub failed-short : {R : Type 0} (e : EntryOf R) → size (failed_pieces e) ≤ 107
unfolding concat failed_pieces
failed-short e =
    simp (concat-append, length-append) (
    omega (arith, name-short e.name e.part, amount-short e.amount, limit-short e.limit, exact-short e.amount)
    )
