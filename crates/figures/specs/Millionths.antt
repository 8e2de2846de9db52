-- The size of an f64 by its bits, the sign's taken off. Assumes nothing: these are definitions.
use Rattle.std.specs.Prelude.{ℕ, ◌+◌, ◌-◌, ◌*◌, ◌/◌, ◌%◌, ◌^◌, cond, eqb}

-- the size is significand / 2 ^ scale, where the exponent's field is under 1075
unfoldable pub significand : ℕ → ℕ
significand b = cond (eqb (b / 2 ^ 52) 0) (b % 2 ^ 52) (b % 2 ^ 52 + 2 ^ 52)

unfoldable pub scale : ℕ → ℕ
scale b = cond (eqb (b / 2 ^ 52) 0) 1074 (1075 - b / 2 ^ 52)

abbrev pub millionths_of : ℕ → ℕ
millionths_of b = significand b * 1000000 / 2 ^ scale b
