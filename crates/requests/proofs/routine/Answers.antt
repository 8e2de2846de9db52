-- The table's names, in their order. Assumes nothing.
use mathlib.Core.Path.{sym, ◌∙◌}
use Rattle.std.proofs.Common.{◌≡◌, rules}
use Rattle.forms.specs.declared.Request.TheVariants.{Root, C, S}
use Rattle.forms.proofs.Steps.{by_word}
use Rattle.requests.specs.Requests.{one_asked}
use Rattle.requests.proofs.routine.Goals as goal

pub returns-then-is_word : goal.returns-then-is_word
returns-then-is_word c =
    let e : c.map.result ≡ one_asked c.one.result Root = search rules in
    e ∙ sym (c.one.ensures Root) ∙ sym (by_word 0 _ _ _ _ c.requires c.is_word.ensures c.if-is_word.true)

pub returns-then-is_word-2 : goal.returns-then-is_word-2
returns-then-is_word-2 c =
    let e : c.map-then-is_word-2.result ≡ one_asked c.one-then-is_word-2.result C = search rules in
    e ∙ sym (c.one-then-is_word-2.ensures C) ∙ sym (by_word 0 _ _ _ _ c.requires c.is_word.ensures c.if-is_word.false ∙ by_word 0 _ _ _ _ c.requires c.is_word-2.ensures c.if-is_word-2.true)

pub returns-then-is_word-3 : goal.returns-then-is_word-3
returns-then-is_word-3 c =
    let e : c.map-then-is_word-3.result ≡ one_asked c.one-then-is_word-3.result S = search rules in
    e ∙ sym (c.one-then-is_word-3.ensures S) ∙ sym (by_word 0 _ _ _ _ c.requires c.is_word.ensures c.if-is_word.false ∙ by_word 0 _ _ _ _ c.requires c.is_word-2.ensures c.if-is_word-2.false ∙ by_word 0 _ _ _ _ c.requires c.is_word-3.ensures c.if-is_word-3.true)

pub returns-then-is_word-4 : goal.returns-then-is_word-4
returns-then-is_word-4 c = c.trial.ensures ∙ sym (by_word 0 _ _ _ _ c.requires c.is_word.ensures c.if-is_word.false ∙ by_word 0 _ _ _ _ c.requires c.is_word-2.ensures c.if-is_word-2.false ∙ by_word 0 _ _ _ _ c.requires c.is_word-3.ensures c.if-is_word-3.false ∙ by_word 0 _ _ _ _ c.requires c.is_word-4.ensures c.if-is_word-4.true)

pub returns-then-is_word-5 : goal.returns-then-is_word-5
returns-then-is_word-5 c = c.wheel.ensures ∙ sym (by_word 0 _ _ _ _ c.requires c.is_word.ensures c.if-is_word.false ∙ by_word 0 _ _ _ _ c.requires c.is_word-2.ensures c.if-is_word-2.false ∙ by_word 0 _ _ _ _ c.requires c.is_word-3.ensures c.if-is_word-3.false ∙ by_word 0 _ _ _ _ c.requires c.is_word-4.ensures c.if-is_word-4.false ∙ by_word 0 _ _ _ _ c.requires c.is_word-5.ensures c.if-is_word-5.true)

pub returns-then-is_word-6 : goal.returns-then-is_word-6
returns-then-is_word-6 c = c.sight.ensures ∙ sym (by_word 0 _ _ _ _ c.requires c.is_word.ensures c.if-is_word.false ∙ by_word 0 _ _ _ _ c.requires c.is_word-2.ensures c.if-is_word-2.false ∙ by_word 0 _ _ _ _ c.requires c.is_word-3.ensures c.if-is_word-3.false ∙ by_word 0 _ _ _ _ c.requires c.is_word-4.ensures c.if-is_word-4.false ∙ by_word 0 _ _ _ _ c.requires c.is_word-5.ensures c.if-is_word-5.false ∙ by_word 0 _ _ _ _ c.requires c.is_word-6.ensures c.if-is_word-6.true)

pub returns-then-is_word-7 : goal.returns-then-is_word-7
returns-then-is_word-7 c = c.cdh.ensures ∙ sym (by_word 0 _ _ _ _ c.requires c.is_word.ensures c.if-is_word.false ∙ by_word 0 _ _ _ _ c.requires c.is_word-2.ensures c.if-is_word-2.false ∙ by_word 0 _ _ _ _ c.requires c.is_word-3.ensures c.if-is_word-3.false ∙ by_word 0 _ _ _ _ c.requires c.is_word-4.ensures c.if-is_word-4.false ∙ by_word 0 _ _ _ _ c.requires c.is_word-5.ensures c.if-is_word-5.false ∙ by_word 0 _ _ _ _ c.requires c.is_word-6.ensures c.if-is_word-6.false ∙ by_word 0 _ _ _ _ c.requires c.is_word-7.ensures c.if-is_word-7.true)

pub returns-then-is_word-8 : goal.returns-then-is_word-8
returns-then-is_word-8 c = c.why.ensures ∙ sym (by_word 0 _ _ _ _ c.requires c.is_word.ensures c.if-is_word.false ∙ by_word 0 _ _ _ _ c.requires c.is_word-2.ensures c.if-is_word-2.false ∙ by_word 0 _ _ _ _ c.requires c.is_word-3.ensures c.if-is_word-3.false ∙ by_word 0 _ _ _ _ c.requires c.is_word-4.ensures c.if-is_word-4.false ∙ by_word 0 _ _ _ _ c.requires c.is_word-5.ensures c.if-is_word-5.false ∙ by_word 0 _ _ _ _ c.requires c.is_word-6.ensures c.if-is_word-6.false ∙ by_word 0 _ _ _ _ c.requires c.is_word-7.ensures c.if-is_word-7.false ∙ by_word 0 _ _ _ _ c.requires c.is_word-8.ensures c.if-is_word-8.true)

pub returns : goal.returns
returns c = c.solve.ensures ∙ sym (by_word 0 _ _ _ _ c.requires c.is_word.ensures c.if-is_word.false ∙ by_word 0 _ _ _ _ c.requires c.is_word-2.ensures c.if-is_word-2.false ∙ by_word 0 _ _ _ _ c.requires c.is_word-3.ensures c.if-is_word-3.false ∙ by_word 0 _ _ _ _ c.requires c.is_word-4.ensures c.if-is_word-4.false ∙ by_word 0 _ _ _ _ c.requires c.is_word-5.ensures c.if-is_word-5.false ∙ by_word 0 _ _ _ _ c.requires c.is_word-6.ensures c.if-is_word-6.false ∙ by_word 0 _ _ _ _ c.requires c.is_word-7.ensures c.if-is_word-7.false ∙ by_word 0 _ _ _ _ c.requires c.is_word-8.ensures c.if-is_word-8.false)
