-- `unsigned`: by the place of the point; the digits behind it go on from the number before it.
use Rattle.std.proofs.Common.{◌≡◌, ℕ, ◌+◌, ◌-◌, length, sym, ap, ◌∙◌, arith, rules}
use Rattle.std.specs.Prelude.{None}
use Rattle.numerals.proofs.Decimals.{room, some, none_before, none-behind, too_many, no-point, both-sides, bad-front}
use Rattle.numerals.specs.Numbers.{word_digits, over_ten}
use Rattle.words.proofs.Searches.{rest_of}
use Rattle.numerals.proofs.reals.unsigned.Goals as goal

pub returns-then-p-eq0 : goal.returns-then-p-eq0
returns-then-p-eq0 c = none_before _ _ c.find-p.ensures c.if-p-eq0.true

pub returns-then-p-gt15 : goal.returns-then-p-gt15
returns-then-p-gt15 c = too_many _ _ c.find-p.ensures (omega arith)

pub returns-then-p-s : goal.returns-then-p-s
returns-then-p-s c = no-point _ _ c.find-p.ensures _ _ c.if-p-eq0.false (omega arith) c.if-p-gt15.false c.read_digits.ensures c.over_ten.ensures

pub returns-then-k-eq0 : goal.returns-then-k-eq0
returns-then-k-eq0 c = none-behind _ _ c.find-p.ensures (omega arith)

pub returns-then-p-k-gt15 : goal.returns-then-p-k-gt15
returns-then-p-k-gt15 c = too_many _ _ c.find-p.ensures (omega arith)

pub returns : goal.returns
returns c =
    let s = c.args.s.now in
    let p = c.find-p.result in
    let k : length s - p - 1 ≡ length s - (p + 1) = omega arith in
    both-sides s p c.find-p.ensures _ _ _ c.if-p-eq0.false (some (length s) p c.if-k-eq0.false) (room (length s) p c.if-p-k-gt15.false)
    (sym c.read_digits-2.ensures ∙ c.in_ok-n.was)
    (c.read_digits-3.ensures ∙ ap (word_digits 10 c.in_ok-n.n) (rest_of (p + 1) s))
    (c.over_ten-2.ensures ∙ ap (λ (j : ℕ). over_ten j c.read_digits-3.result) k)

pub returns-in_err-n : goal.returns-in_err-n
returns-in_err-n c =
    let s = c.args.s.now in
    let p = c.find-p.result in
    let n : c.from_residual.result ≡ None = search rules in
    n ∙ bad-front s p c.find-p.ensures c.if-p-eq0.false (some (length s) p c.if-k-eq0.false) (room (length s) p c.if-p-k-gt15.false)
    (sym c.read_digits-2.ensures ∙ c.in_err-n.was)
