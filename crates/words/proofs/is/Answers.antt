-- `is` goes by the kind of byte.
use mathlib.Core.Path.{sym, ap, ◌∙◌}
use mathlib.Core.Bool.{not}
use Rattle.words.specs.declared.Byte.{Byte}
use Rattle.words.specs.Words.{is_of}
use Rattle.words.proofs.is.Goals as goal

pub returns-in-NotBlank : goal.returns-in-NotBlank
unfolding is_of
returns-in-NotBlank c = ap not c.is_blank-in-NotBlank.ensures ∙ ap (λ (x : Byte). is_of x c.args.b) (sym c.in-NotBlank.is)

pub returns-in-Point : goal.returns-in-Point
unfolding is_of
returns-in-Point c = ap (λ (x : Byte). is_of x c.args.b) (sym c.in-Point.is)
