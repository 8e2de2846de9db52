-- The time from one whole time to another, exactly. Assumes nothing: these are definitions.
use Rattle.std.specs.Prelude.{ℕ, ◌+◌, ◌-◌, ◌^◌, Bool, cond, ℤ, pos, negsuc, ◌-ℤ◌, int_le, nat_lt, unsigned_abs, Float, None, Option, Some}
use Rattle.std.specs.Float.{binary64}
use Rattle.std.specs.Float.Ieee.{of_int}

-- t + 2^63, for a t of 64 bits
unfoldable pub raised : ℤ → ℕ
raised (pos n) = 2 ^ 63 + n
raised (negsuc n) = 2 ^ 63 - (1 + n)

-- |a − b|
abbrev pub apart_of : ℕ → ℕ → ℕ
apart_of a b = (a - b) + (b - a)

-- to − from is at least cs
unfoldable pub at_least : ℤ → ℤ → ℕ → Bool
at_least from to cs = int_le (pos cs) (to -ℤ from)

-- to − from, a number that f64 holds exactly, unless it is over 2^28 in size
unfoldable pub elapsed_of : ℤ → ℤ → Option Float
elapsed_of from to = cond (nat_lt (2 ^ 28) (unsigned_abs (to -ℤ from))) None (Some (of_int binary64 (to -ℤ from)))
