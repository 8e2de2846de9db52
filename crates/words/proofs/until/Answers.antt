-- `until`: by the place behind what does not count.
use native.Mathlib.Omega.{arith}
use Rattle.words.proofs.Searches.{found-there, found-nowhere}
use Rattle.words.proofs.until.Goals as goal

pub overflow_add-result : goal.overflow_add-result
overflow_add-result c = let f = found-there _ _ _ c.requires _ c.in-Some.ensures in record { fits = omega (arith, f.within) }

pub returns-in-Some : goal.returns-in-Some
returns-in-Some c = found-there _ _ _ c.requires _ c.in-Some.ensures

pub returns-in-None : goal.returns-in-None
returns-in-None c = found-nowhere _ _ _ c.requires c.in-None.ensures
