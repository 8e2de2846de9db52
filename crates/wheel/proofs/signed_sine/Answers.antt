-- `wheel::signed_sine` meets its contract, quadrant by quadrant. Assumes nothing.
use Rattle.std.proofs.Common.{ℕ, pos, neg_ℤ, sym, ap, ◌∙◌}
use Rattle.wheel.proofs.Quadrants.{first, second, third, fourth}
use Rattle.wheel.proofs.Signs.{plain, negative}
use Rattle.wheel.proofs.signed_sine.Goals as goal

pub returns-then-e-le900 : goal.returns-then-e-le900
returns-then-e-le900 c = plain _ c.entry.type_inv ∙ ap pos c.entry.ensures ∙ sym (first _ c.if-e-le900.true)

pub returns-then-e-le1800 : goal.returns-then-e-le1800
returns-then-e-le1800 c = plain _ c.entry-then-e-le1800.type_inv ∙ ap pos c.entry-then-e-le1800.ensures ∙ sym (second _ c.if-e-le900.false c.if-e-le1800.true)

pub returns-then-e-le2700 : goal.returns-then-e-le2700
returns-then-e-le2700 c =
    negative _ c.entry-then-e-le2700.type_inv ∙ ap (λ (n : ℕ). neg_ℤ (pos n)) c.entry-then-e-le2700.ensures ∙ sym (third _ c.if-e-le1800.false c.if-e-le2700.true)

pub returns : goal.returns
returns c =
    negative _ c.entry-2.type_inv ∙ ap (λ (n : ℕ). neg_ℤ (pos n)) c.entry-2.ensures ∙ sym (fourth _ c.if-e-le2700.false)
