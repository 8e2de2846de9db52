-- The two ends, and the count. Assumes nothing.
use Rattle.std.specs.Prelude.{Err}
use Prim.Native.Nat.{ℕ, ◌+◌}
use mathlib.Core.Path.{◌≡◌, refl, sym, ap, ◌∙◌}
use native.Mathlib.Omega.{arith}
use lib.IntN.{ℤ}
use Rattle.std.proofs.Common.{rules, w64}
use mir.Val.{to_z, of_z}
use Rattle.iterator.specs.declared.Judgement.{Judgement}
use Rattle.iterator.specs.declared.Bracket.{Bracket}
use Rattle.forms.specs.Forms.{Form, signed, judgement, whole, read_by}
use Rattle.forms.proofs.Steps.{by_whole_lem}
use Rattle.forms.proofs.Rows.{there, missed}
use Rattle.options.proofs.bracket_at.Goals as goal

-- what follows the lower end, and what follows the upper one
abbrev counted : (Bracket → Form) → ℤ → Judgement → ℤ → Judgement → Form
counted go lo below hi above = whole λ count. go (record { lo = lo; hi = hi; below = below; above = above; count = count })

abbrev upper : (Bracket → Form) → ℤ → Judgement → Form
upper go lo below = signed λ hi. judgement λ above. counted go lo below hi above

pub returns-in_err-lo : goal.returns-in_err-lo
returns-in_err-lo c =
    let e : c.from_residual.result ≡ Err c.in_err-lo.field-0.0 = search rules in
    λ go. c.in_err-lo.ensures (upper go) ∙ rw e refl

pub returns-in_err-hi : goal.returns-in_err-hi
returns-in_err-hi c =
    let e : c.from_residual-in_err-hi.result ≡ Err c.in_err-hi.field-0.0 = search rules in
    λ go. c.in_ok-lo.ensures (upper go) ∙ c.in_err-hi.ensures (counted go c.in_ok-lo.lo c.in_ok-lo.below) ∙ rw e refl

pub returns-in_err-count : goal.returns-in_err-count
returns-in_err-count c =
    let n : c.args.k + 2 + 2 ≡ c.args.k + 4 = omega arith in
    let m = missed _ _ (sym c.ok_or.ensures.value ∙ c.in_err-count.was) in
    let e : c.from_residual-in_err-count.result ≡ Err c.in_err-count.field-0.0 = search rules in
    let o : c.args.k + 4 + 1 ≡ c.args.k + 5 = omega arith in
    λ go.
    c.in_ok-lo.ensures (upper go)
    ∙ c.in_ok-hi.ensures (counted go c.in_ok-lo.lo c.in_ok-lo.below)
    ∙ ap (λ (p : ℕ). read_by (counted go c.in_ok-lo.lo c.in_ok-lo.below c.in_ok-hi.hi c.in_ok-hi.above) p c.args.line.now) n
    ∙ by_whole_lem _ c.args.line.now _ c.whole_at.ensures m.0
    ∙ rw (e, o, m.1) refl

pub returns : goal.returns
returns c =
    let n : c.args.k + 2 + 2 ≡ c.args.k + 4 = omega arith in
    let o : c.args.k + 4 + 1 ≡ c.args.k + 5 = omega arith in
    let l : to_z w64 (of_z w64 c.in_ok-lo.lo) ≡ c.in_ok-lo.lo = search rules in
    let h : to_z w64 (of_z w64 c.in_ok-hi.hi) ≡ c.in_ok-hi.hi = search rules in
    λ go.
    c.in_ok-lo.ensures (upper go)
    ∙ c.in_ok-hi.ensures (counted go c.in_ok-lo.lo c.in_ok-lo.below)
    ∙ ap (λ (p : ℕ). read_by (counted go c.in_ok-lo.lo c.in_ok-lo.below c.in_ok-hi.hi c.in_ok-hi.above) p c.args.line.now) n
    ∙ by_whole_lem _ c.args.line.now _ c.whole_at.ensures (there _ _ (sym c.ok_or.ensures.value ∙ c.in_ok-count.was))
    ∙ rw (o, l, h) refl
