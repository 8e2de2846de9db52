-- `root::by_digits` meets its contract. The invariant, after i turns: a * 4 ^ i is s * s + rem, followed by the rest. Assumes nothing.
use Rattle.std.proofs.Common.{◌≡◌, ℕ, ◌+◌, ◌-◌, ◌*◌, ◌/◌, ◌%◌, ◌<◌, ◌≤◌, arith}
use Rattle.root.proofs.Digits.{turn, twice, below-53, square-even, square-odd}
use Rattle.root.proofs.by_digits.Invariants.{Inv}
use Rattle.root.proofs.by_digits.Goals as goal
use Rattle.root.proofs.by_digits.Goals.{then-t-rem, else-t-rem}

-- the digit 1, and the digit 0
one : (a i s rem rest : ℕ) → Inv a rest rem s i → i < 54 → s * 4 + 1 ≤ rem * 4 + rest / 4503599627370496
    → Inv a (rest % 4503599627370496 * 4) (rem * 4 + rest / 4503599627370496 - (s * 4 + 1)) (s * 2 + 1) (i + 1)
one a i s rem rest v l h =
    let e = turn a i s rem rest v.0 in
    let f = square-odd s in
    let g = twice i in
    (omega arith, omega arith, omega arith, omega arith, omega arith)

none : (a i s rem rest : ℕ) → Inv a rest rem s i → i < 54 → rem * 4 + rest / 4503599627370496 < s * 4 + 1
    → Inv a (rest % 4503599627370496 * 4) (rem * 4 + rest / 4503599627370496) (s * 2) (i + 1)
none a i s rem rest v l h =
    let e = turn a i s rem rest v.0 in
    let f = square-even s in
    let g = twice i in
    (omega arith, omega arith, omega arith, omega arith, omega arith)

-- the same at a join
moved : (a rest i rem s rem' s' : ℕ) → rem' ≡ rem → s' ≡ s → Inv a rest rem s i → Inv a rest rem' s' i
moved a rest i rem s rem' s' p q v = rw (p, q) v

pub overflow_mul-rem : goal.overflow_mul-rem
overflow_mul-rem c = omega (arith, below-53 c.loop-i.i (omega arith))

pub overflow_add-rem : goal.overflow_add-rem
overflow_add-rem c = omega (arith, below-53 c.loop-i.i (omega arith))

pub overflow_mul-t : goal.overflow_mul-t
overflow_mul-t c = omega (arith, below-53 c.loop-i.i (omega arith))

pub overflow_add-t : goal.overflow_add-t
overflow_add-t c = omega (arith, below-53 c.loop-i.i (omega arith))

pub loop-i-preserved : goal.loop-i-preserved
loop-i-preserved c =
    let l = c.loop-i in
    let a = c.args.a in
    elim c.if-t-rem.branch [
      | then-t-rem w ↦ moved a _ _ _ _ c.if-t-rem.rem c.if-t-rem.s w.rem-is w.s-is (one a l.i l.s l.rem l.rest l.invariant c.loop-i-test.true w.if-t-rem.true)
      | else-t-rem w ↦ moved a _ _ _ _ c.if-t-rem.rem c.if-t-rem.s w.rem-is w.s-is (none a l.i l.s l.rem l.rest l.invariant c.loop-i-test.true w.if-t-rem.false)
    ]
