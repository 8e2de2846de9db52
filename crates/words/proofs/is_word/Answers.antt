-- `is_word`: each byte is the same.
use mathlib.Core.Path.{◌∙◌}
use Rattle.words.proofs.Searches.{same_bytes}
use Rattle.words.proofs.is_word.Goals as goal

pub returns : goal.returns
returns c = c.eq.ensures ∙ same_bytes _ _
