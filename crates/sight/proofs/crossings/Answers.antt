-- `sight::crossings` meets its contract: past the tests the wheel answers, so that its refusal is never passed on. Assumes nothing.
use Rattle.std.specs.Prelude.{Err, Ok, Result}
use Rattle.refusal.specs.declared.Refusal.{Refusal}
use Rattle.std.proofs.Common.{◌≡◌, ℕ, sym, ap, ◌∙◌, refl, arith}
use Rattle.table.specs.Tests.{Entry, told, ◌▷◌}
use Rattle.wheel.specs.declared.Direction.{Direction}
use Rattle.wheel.specs.Wheel.{direction_of}
use Rattle.sight.specs.declared.Line.{Line}
use Rattle.sight.specs.Sight.{elevated_of, line_of, radicand_row, sight_line, answered}
use Rattle.sight.proofs.Laws.{tested, wheel_told_lem}
use Rattle.sight.proofs.crossings.Goals as goal

-- the wheel's own direction
same-direction : (d d' : Direction) → ◌≡◌ {A = Result Direction Refusal} (Ok d) (Ok d') → d ≡ d'
same-direction d d' e = cc

-- so that it is not refused
never : (x : Result Direction Refusal) (d : Direction) (n : Refusal) → x ≡ Ok d → x ≡ Err n → ⊥
never x d n p q = let z : ◌≡◌ {A = ℕ} 0 1 = cc in omega arith

pub returns-in-Err : goal.returns-in-Err
unfolding answered told
returns-in-Err c =
    let a = c.args in
    ap (λ (t : Result Unit Entry). answered t a.a (sight_line a.a a.p a.e a.h a.v)) (sym (tested a.a a.p a.e a.h a.v _ (sym c.in-Err.is ∙ c.input_tests.ensures)))

pub returns-in_err-d : goal.returns-in_err-d
returns-in_err-d c =
    let a = c.args in
    let passed = sym c.in_default.is ∙ c.input_tests.ensures in
    absurd (never _ (direction_of a.e) _ (c.wheel.ensures ∙ wheel_told_lem a.a a.p a.e a.h a.v (Ok tt) passed refl) c.in_err-d.was)

pub returns : goal.returns
returns c =
    let a = c.args in
    let passed = sym c.in_default.is ∙ c.input_tests.ensures in
    let at = wheel_told_lem a.a a.p a.e a.h a.v (Ok tt) passed refl in
    let d = same-direction _ (direction_of a.e) (sym c.in_ok-d.was ∙ c.wheel.ensures ∙ at) in
    let line = c.line_of.ensures ∙ ap (line_of a.a a.p) (c.elevated.ensures ∙ ap (λ (x : Direction). elevated_of x a.h a.v) d) in
    c.crossed.ensures
    ∙ ap (λ (l : Line). answered (Ok tt ▷ radicand_row l) a.a l) line
    ∙ ap (λ (t : Result Unit Entry). answered t a.a (sight_line a.a a.p a.e a.h a.v)) (sym (tested a.a a.p a.e a.h a.v (Ok tt) passed))
