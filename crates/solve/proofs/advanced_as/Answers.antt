-- `solve::advanced_as` meets its contract: case by case. Assumes nothing.
use mathlib.Core.Path.{◌≡◌, sym, ap, ◌∙◌}
use borrow.Author.Rules.{sfits_of}
use lib.IntN.{ℤ}
use mir.Facts.{to_z-of_z}
use mir.Syntax.{w64}
use Rattle.kepler.specs.Kepler.{arrival_of}
use Rattle.solve.specs.Answers.{advanced_as, advanced_at}
use Rattle.solve.proofs.advanced_as.Goals as goal

pub returns-in-TooShort : goal.returns-in-TooShort
unfolding advanced_as
returns-in-TooShort c = simp c.in-TooShort.is

pub returns-in-TooLong : goal.returns-in-TooLong
unfolding advanced_as
returns-in-TooLong c = simp c.in-TooLong.is

pub returns-in-Ok : goal.returns-in-Ok
unfolding advanced_as advanced_at
returns-in-Ok c =
    simp (
      c.in-Met.is,
      sym (let arrival : let a = c.args in
          c.arrive.result ≡ arrival_of a.m a.from c.in-Met.x.n = let a = c.args in
          c.arrive.ensures ∙ ap (λ (z : ℤ). arrival_of a.m a.from z) (to_z-of_z {w = w64} {z = c.in-Met.x.n} (sfits_of c.struct_told-1.given.0.1)) in arrival) ∙ c.in-Ok.is,
      c.turned.ensures,
    )

pub returns-in-Err : goal.returns-in-Err
unfolding advanced_as advanced_at
returns-in-Err c =
    simp (
      c.in-Met.is,
      sym (let arrival : let a = c.args in
          c.arrive.result ≡ arrival_of a.m a.from c.in-Met.x.n = let a = c.args in
          c.arrive.ensures ∙ ap (λ (z : ℤ). arrival_of a.m a.from z) (to_z-of_z {w = w64} {z = c.in-Met.x.n} (sfits_of c.struct_told-1.given.0.1)) in arrival) ∙ c.in-Err.is,
    )

pub returns-in-NotFinished : goal.returns-in-NotFinished
unfolding advanced_as
returns-in-NotFinished c = simp c.in-NotFinished.is
