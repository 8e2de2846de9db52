-- The words of every conic formula: the operations of f64, each rounded once (IEEE 754 binary64), and its constants.
-- Assumes nothing: these are definitions.
use Rattle.std.specs.Prelude.{ℕ, ◌+◌, ◌-◌, ◌*◌, Bool, true, false, cond, Float}
use Rattle.std.specs.Float.Ieee as Ieee
use Rattle.std.specs.Float.{nan, inf, fin, binary64}

infixl 65 ◌⊕◌
infixl 65 ◌⊖◌
infixl 70 ◌⊗◌
infixl 70 ◌⊘◌
abbrev pub ◌⊕◌ : Float → Float → Float
x ⊕ y = Ieee.add binary64 x y

abbrev pub ◌⊖◌ : Float → Float → Float
x ⊖ y = Ieee.sub binary64 x y

abbrev pub ◌⊗◌ : Float → Float → Float
x ⊗ y = Ieee.mul binary64 x y

abbrev pub ◌⊘◌ : Float → Float → Float
x ⊘ y = Ieee.div binary64 x y

-- the tests, false where either side is a NaN
infix 50 ◌≤ᶠ◌
infix 50 ◌<ᶠ◌
abbrev pub ◌≤ᶠ◌ : Float → Float → Bool
x ≤ᶠ y = Ieee.le x y

abbrev pub ◌<ᶠ◌ : Float → Float → Bool
x <ᶠ y = Ieee.lt x y

-- the constant with this bit pattern
abbrev pub bits : ℕ → Float
bits n = Ieee.of_bits binary64 n

-- 2 ^ k and 2 ^ -k, for k up to 1022: the exponent's field alone
abbrev pub two^ : ℕ → Float
two^ k = bits ((1023 + k) * 0x10_0000_0000_0000)

abbrev pub two^- : ℕ → Float
two^- k = bits ((1023 - k) * 0x10_0000_0000_0000)

-- 0, 1, 2, 3, 4 and 6
abbrev pub f0 : Float
f0 = bits 0

abbrev pub f1 : Float
f1 = two^ 0

abbrev pub f2 : Float
f2 = two^ 1

abbrev pub f3 : Float
f3 = bits 0x4008_0000_0000_0000

abbrev pub f4 : Float
f4 = two^ 2

abbrev pub f6 : Float
f6 = bits 0x4018_0000_0000_0000

-- neither an infinity nor a NaN
abbrev pub finite : Float → Bool
finite nan = false
finite (inf s) = false
finite (fin s m e) = true

-- −x where x is below 0, else x
abbrev pub size_of : Float → Float
size_of x = cond (x <ᶠ f0) (Ieee.neg x) x

-- x cut to a whole number towards zero and held in 0..2^64−1; 0 for a NaN
abbrev pub cut_of : Float → ℕ
cut_of x = Ieee.to_unsigned 64 x
