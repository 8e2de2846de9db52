-- `word`: at turn i the place is that of the word behind i words.
use Prim.Native.Nat.{ℕ, ◌≤◌}
use native.Mathlib.Omega.{arith}
use mathlib.Core.Path.{◌≡◌, ap, ◌∙◌}
use lib.ListN.{length, drop_of_length-le}
use Rattle.words.specs.Words.{from_word}
use Rattle.words.proofs.Searches.{first_word, next_word, this-word, no_word, rest_of}
use Rattle.words.proofs.word.Goals as goal

pub loop-passed-init : goal.loop-passed-init
loop-passed-init c = (c.until-at.ensures.within, first_word _ _ c.until-at.ensures)

pub returns-then-at-s : goal.returns-then-at-s
returns-then-at-s c =
    let s = c.args.s.now in
    let h : length s ≤ c.loop-passed.at = omega arith in
    rest_of c.loop-passed.at s ∙ drop_of_length-le s h
    ∙ no_word s _ _ _ c.loop-passed.invariant.1 h c.loop-passed-test.true

pub loop-passed-preserved : goal.loop-passed-preserved
loop-passed-preserved c = (c.until-at-in-loop-passed.ensures.within, next_word _ _ _ _ _ c.loop-passed.invariant.1 c.until-e.ensures c.until-at-in-loop-passed.ensures)

pub returns : goal.returns
returns c =
    let s = c.args.s.now in
    let n : c.loop-passed._passed ≡ c.args.k = omega arith in
    this-word s _ _ _ (c.loop-passed.invariant.1 ∙ ap (λ (j : ℕ). from_word j s) n) c.until-e-2.ensures
