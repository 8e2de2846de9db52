-- By the word, and the bracket behind it. Assumes nothing.
use Rattle.std.specs.Prelude.{Err}
use Prim.Native.Nat.{ℕ, ◌+◌}
use mathlib.Core.Path.{◌≡◌, refl, ap, ◌∙◌}
use native.Mathlib.Omega.{arith}
use borrow.Author.Tests.{not-false}
use Rattle.std.proofs.Common.{rules}
use Rattle.iterator.specs.declared.Bracket.{Bracket}
use Rattle.iterator.specs.declared.Beginning.{Beginning}
use Rattle.iterator.specs.declared.Beginning.TheVariants.{Stopped}
use Rattle.forms.specs.declared.Version.{Version}
use Rattle.forms.specs.declared.Request.{Request}
use Rattle.forms.specs.Forms.{Form, end, read_by}
use Rattle.forms.proofs.Steps.{by_word}
use Rattle.options.specs.Options.{limit, version}
use mathlib.Core.Bool.{not}
use Rattle.options.proofs.read.Goals as goal

-- what follows a bracket
abbrev going : (Beginning → ℕ → Version → Request) → Bracket → Form
going ask b = limit λ l. version λ v. end (ask (Stopped b) l v)

pub returns-in_err-b : goal.returns-in_err-b
returns-in_err-b c =
    let e : c.from_residual.result ≡ Err c.in_err-b.field-0.0 = search rules in
    λ ask.
    by_word _ _ _ _ _ (rw (← c.from-at.ensures) c.word-w.ensures) c.is_word.ensures (not-false _ (ap not c.if-not-is_word.false))
    ∙ rw c.from-at.ensures at (c.in_err-b.ensures (going ask))
    ∙ rw e refl

pub returns : goal.returns
returns c =
    let n : c.args.k + 1 + 5 ≡ c.args.k + 6 = omega arith in
    λ ask.
    by_word _ _ _ _ _ (rw (← c.from-at.ensures) c.word-w.ensures) c.is_word.ensures (not-false _ (ap not c.if-not-is_word.false))
    ∙ rw c.from-at.ensures at (c.in_ok-b.ensures (going ask))
    ∙ ap (λ (p : ℕ). read_by (going ask c.in_ok-b.b) p c.args.line.now) n
    ∙ rw c.from-at.ensures at (c.limited-2.ensures ask)
