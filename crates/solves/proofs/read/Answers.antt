-- The table's first names, in their order. Assumes nothing.
use mathlib.Core.Path.{◌∙◌}
use Rattle.forms.proofs.Steps.{by_word}
use Rattle.solves.proofs.read.Goals as goal

pub returns-then-is_word : goal.returns-then-is_word
returns-then-is_word c =
    let n = rw c.from.ensures at c.word-name.ensures in
    λ ask. by_word c.args.k c.args.line.now _ _ _ n c.is_word.ensures c.if-is_word.true ∙ rw c.from-behind.ensures at (c.kepler.ensures ask)

pub returns-then-is_word-2 : goal.returns-then-is_word-2
returns-then-is_word-2 c =
    let n = rw c.from.ensures at c.word-name.ensures in
    λ ask.
    by_word c.args.k c.args.line.now _ _ _ n c.is_word.ensures c.if-is_word.false
    ∙ by_word c.args.k c.args.line.now _ _ _ n c.is_word-2.ensures c.if-is_word-2.true
    ∙ rw c.from-behind.ensures at (c.lambert.ensures ask)
