-- What a part of the input leaves. Assumes nothing: these are definitions.
use Rattle.std.specs.Prelude.{ℕ, List, None, Option, Some}
use Rattle.session.specs.declared.Reading.{Reading}
use Rattle.stream.specs.declared.Standing.{Standing}
use Rattle.stream.specs.Calls.{Calls}

-- the reader and the room behind a part are those of the calls whose law is `reads_whole`
pub record Fed-by (x : Standing) (d part : List ℕ) (z : Standing) (f : List ℕ) : Type 0 where
  pub readings : List Reading
  pub calls : Calls x d part 0 readings z f

abbrev pub Feeds : Standing → List ℕ → List ℕ → List ℕ → Option Standing → Type 0
Feeds x d part e (Some z) = Fed-by x d part z e
Feeds x d part e None = Unit {0}
