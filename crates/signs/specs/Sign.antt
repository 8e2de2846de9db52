-- The sign of a whole number. Assumes nothing: this is a definition.
use Rattle.std.specs.Prelude.{Bool, true, false, ℤ, pos, negsuc}

abbrev pub negative : ℤ → Bool
negative (pos n) = false
negative (negsuc n) = true
