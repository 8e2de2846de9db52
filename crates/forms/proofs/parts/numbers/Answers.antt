-- Each turn reads one number more, into its place. Assumes nothing.
use Prim.Native.Nat.{◌+◌, ◌<◌, ◌≤◌}
use native.Mathlib.Omega.{arith}
use mathlib.Core.Path.{◌≡◌, refl, sym, ◌∙◌}
use lib.ListN.{length, length-set}
use Rattle.std.specs.Prelude.{Err}
use Rattle.std.proofs.Common.{rules}
use Rattle.std.proofs.lemmas.List.{set-get_or}
use Rattle.words.specs.Words.{word_at}
use Rattle.numerals.specs.Numbers.{word_number}
use Rattle.forms.proofs.Rows.{there, missed, got-none, got-more, got-bad, got-all, filled-none, filled-more, filled-bad, filled-all}
use Rattle.forms.proofs.parts.numbers.Goals as goal

pub loop-i-init : goal.loop-i-init
loop-i-init c = (refl, got-none _ _ _, filled-none _ _ _)

pub loop-i-preserved : goal.loop-i-preserved
loop-i-preserved c =
    let p : c.number_at.result ≡ word_number (word_at (c.args.k + c.loop-i.i) c.args.line.now) = rw (← c.from.ensures) c.number_at.ensures in
    let h : c.loop-i.i < length c.loop-i.xs = omega (arith, c.loop-i.invariant.0) in
    let x = there _ _ (sym c.ok_or.ensures.value ∙ c.in_ok-x.was) in
    (simp length-set c.loop-i.invariant.0, got-more c.loop-i.invariant.1 h p x, filled-more _ _ _ _ _ c.loop-i.invariant.2 h p x)

pub returns-in_err-x-clause-read : goal.returns-in_err-x-clause-read
returns-in_err-x-clause-read c =
    let p : c.number_at.result ≡ word_number (word_at (c.args.k + c.loop-i.i) c.args.line.now) = rw (← c.from.ensures) c.number_at.ensures in
    let h : c.loop-i.i < length c.loop-i.xs = omega (arith, c.loop-i.invariant.0) in
    let m = missed _ _ (sym c.ok_or.ensures.value ∙ c.in_err-x.was) in
    let e : c.from_residual.result ≡ Err c.in_err-x.field-0.0 = search rules in
    rw (e, ← m.1, c.from.ensures, length-set) (got-bad c.loop-i.invariant.1 h p m.0)

pub returns-in_err-x-clause-left : goal.returns-in_err-x-clause-left
returns-in_err-x-clause-left c =
    let p : c.number_at.result ≡ word_number (word_at (c.args.k + c.loop-i.i) c.args.line.now) = rw (← c.from.ensures) c.number_at.ensures in
    let h : c.loop-i.i < length c.loop-i.xs = omega (arith, c.loop-i.invariant.0) in
    let m = missed _ _ (sym c.ok_or.ensures.value ∙ c.in_err-x.was) in
    set-get_or _ _ _ ∙ filled-bad _ _ _ _ _ c.loop-i.invariant.2 h p m.0

pub returns-clause-read : goal.returns-clause-read
returns-clause-read c =
    let h : length c.loop-i.xs ≤ c.loop-i.i = omega (arith, c.loop-i.invariant.0) in
    got-all c.loop-i.invariant.1 h

pub returns-clause-left : goal.returns-clause-left
returns-clause-left c =
    let h : length c.loop-i.xs ≤ c.loop-i.i = omega (arith, c.loop-i.invariant.0) in
    filled-all _ _ _ _ _ c.loop-i.invariant.2 h
