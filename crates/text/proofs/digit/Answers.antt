-- A digit under ten, and one from ten on. Assumes nothing.
use mathlib.Core.Path.{refl}
use borrow.Author.Tests.{lt-ltb, le-ltb}
use Rattle.text.specs.Text.{digit_text}
use Rattle.text.proofs.digit.Goals as goal

pub returns-then-d-lt10 : goal.returns-then-d-lt10
unfolding digit_text
returns-then-d-lt10 c = rw (lt-ltb _ _ c.if-d-lt10.true) refl

pub returns-else-d-lt10 : goal.returns-else-d-lt10
unfolding digit_text
returns-else-d-lt10 c = rw (le-ltb _ _ c.if-d-lt10.false) refl
