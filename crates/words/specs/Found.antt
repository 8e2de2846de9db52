-- What a search from a place finds. Assumes nothing: this is a definition.
use Rattle.std.specs.Prelude.{ℕ, ◌-◌, ◌≤◌, ◌≡◌, List, length, take, drop}
use Rattle.words.specs.declared.Byte.{Byte}
use Rattle.words.specs.Words.{up_to, from}

-- r is the place of the first such byte of s at or behind the place at
pub record Found (c : Byte) (s : List ℕ) (at r : ℕ) : Type 0 where
  pub behind : at ≤ r
  pub within : r ≤ length s
  pub passed : take (r - at) (drop at s) ≡ up_to c (drop at s)
  pub rest : drop r s ≡ from c (drop at s)
