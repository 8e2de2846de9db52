-- `starts_with`: t is what stands at the front.
use mathlib.Core.Path.{◌∙◌}
use Rattle.words.proofs.Searches.{starts_front}
use Rattle.words.proofs.starts_with.Goals as goal

pub returns : goal.returns
returns c = c.starts_with.ensures.value ∙ starts_front _ _
