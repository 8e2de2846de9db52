-- Test after test, in their order. Assumes nothing.
use Rattle.std.proofs.Common.{sym, ◌∙◌, to_z-of_z}
use Rattle.std.proofs.lemmas.Result.{err_from_is_err_and}
use borrow.Author.Tests.{eq-eqb, ne_eqb}
use Rattle.replay.specs.Replay.{met_of, both_of}
use Rattle.replay.proofs.fly_both.Goals.{then-too_far-via-then-too_far, then-too_far-via-else-too_far+then-too_far-2}
use Rattle.replay.proofs.fly_both.Goals as goal

pub returns-then-a-b : goal.returns-then-a-b
unfolding both_of
returns-then-a-b c = simp (ne_eqb c.args.a.body c.args.b.body c.if-a-b.true)

pub returns-then-too_far : goal.returns-then-too_far
unfolding both_of
returns-then-too_far c =
    let t = to_z-of_z c.ranges.time in
    let same = eq-eqb c.args.a.body c.args.b.body c.if-a-b.false in
    let first = rw t at c.too_far.ensures in
    elim c.then-too_far.branch [
      | then-too_far-via-then-too_far w ↦ simp (same, sym first ∙ w.if-too_far.true)
      | then-too_far-via-else-too_far+then-too_far-2 w ↦
          simp (same, sym first ∙ w.if-too_far.false, sym (rw t at w.too_far-else-too_far.ensures) ∙ w.if-too_far-2.true)
    ]

pub returns-in_err-fly : goal.returns-in_err-fly
unfolding both_of met_of
returns-in_err-fly c =
    let t = to_z-of_z c.ranges.time in
    let p = err_from_is_err_and c.from_residual.result c.from_residual.ensures.1 in
    simp (
      eq-eqb c.args.a.body c.args.b.body c.if-a-b.false,
      sym (rw t at c.too_far.ensures) ∙ c.if-too_far.false,
      sym (rw t at c.too_far-else-too_far.ensures) ∙ c.if-too_far-2.false,
      sym (rw t at c.fly.ensures) ∙ c.in_err-fly.was,
      p.1,
      p.2,
    )

pub returns-in_err-fly-2 : goal.returns-in_err-fly-2
unfolding both_of met_of
returns-in_err-fly-2 c =
    let t = to_z-of_z c.ranges.time in
    let p = err_from_is_err_and c.from_residual-in_err-fly-2.result c.from_residual-in_err-fly-2.ensures.1 in
    simp (
      eq-eqb c.args.a.body c.args.b.body c.if-a-b.false,
      sym (rw t at c.too_far.ensures) ∙ c.if-too_far.false,
      sym (rw t at c.too_far-else-too_far.ensures) ∙ c.if-too_far-2.false,
      sym (rw t at c.fly.ensures) ∙ c.in_ok-fly.was,
      sym (rw t at c.fly-2.ensures) ∙ c.in_err-fly-2.was,
      p.1,
      p.2,
    )

pub returns : goal.returns
unfolding both_of met_of
returns c =
    let t = to_z-of_z c.ranges.time in
    simp (
      eq-eqb c.args.a.body c.args.b.body c.if-a-b.false,
      sym (rw t at c.too_far.ensures) ∙ c.if-too_far.false,
      sym (rw t at c.too_far-else-too_far.ensures) ∙ c.if-too_far-2.false,
      sym (rw t at c.fly.ensures) ∙ c.in_ok-fly.was,
      sym (rw t at c.fly-2.ensures) ∙ c.in_ok-fly-2.was,
    )
