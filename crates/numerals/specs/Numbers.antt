-- What a word says as a number. Assumes nothing: these are definitions.
use Rattle.std.specs.Prelude.{ℕ, ◌+◌, ◌-◌, ◌*◌, ◌^◌, Bool, true, cond, not, ◌&&◌, List, [], ◌∷◌, ◌++◌, length, drop, pos, neg_ℤ, ◌==◌, nat_le, nat_lt, slice_index, Float, None, Option, Some, ℤ}
use Rattle.std.specs.Float.Ieee as Ieee
use Rattle.std.specs.Float.{binary64}
use Rattle.real.specs.F64.{bits, ◌⊘◌}
use Rattle.words.specs.declared.Byte.TheVariants.{Point}
use Rattle.words.specs.Words.{up_to, from}

-- ---- digits

abbrev pub between : ℕ → ℕ → ℕ → Bool
between lo hi b = nat_le lo b && nat_le b hi

-- what a digit counts: `0` to `9`, `A` to `F`, `a` to `f`; 16 for any other byte
unfoldable pub digit_of : ℕ → ℕ
digit_of b = cond (between 48 57 b) (b - 48) (cond (between 65 70 b) (b - 55) (cond (between 97 102 b) (b - 87) 16))

-- each byte is a digit of the base
unfoldable pub are_digits : ℕ → List ℕ → Bool
are_digits base [] = true
are_digits base (b ∷ s) = nat_lt (digit_of b) base && are_digits base s

-- the number that digits stand for, with those of v in front
unfoldable pub value_of : ℕ → ℕ → List ℕ → ℕ
value_of base v [] = v
value_of base v (b ∷ s) = value_of base (v * base + digit_of b) s

-- the same, where each byte is a digit and a u64 holds the number
unfoldable pub word_digits : ℕ → ℕ → List ℕ → Option ℕ
word_digits base v s = cond (are_digits base s && nat_lt (value_of base v s) (2 ^ 64)) (Some (value_of base v s)) None

-- ---- whole numbers: an optional minus, and decimal digits

-- the first byte of a word, 0 if it has none
abbrev pub first : List ℕ → ℕ
first s = slice_index s 0

-- one digit or more
unfoldable pub word_decimal : List ℕ → Option ℕ
word_decimal s = cond (length s == 0) None (word_digits 10 0 s)

-- no u64 is below 0
abbrev pub only_zero : Option ℕ → Option ℕ
only_zero (Some n) = cond (n == 0) (Some 0) None
only_zero None = None

unfoldable pub word_whole : List ℕ → Option ℕ
word_whole s = cond (first s == 45) (only_zero (word_decimal (drop 1 s))) (word_decimal s)

-- an i64 lies in −2^63..2^63−1
abbrev pub plain : Option ℕ → Option ℤ
plain (Some n) = cond (nat_lt n (2 ^ 63)) (Some (pos n)) None
plain None = None

abbrev pub minus : Option ℕ → Option ℤ
minus (Some n) = cond (nat_le n (2 ^ 63)) (Some (neg_ℤ (pos n))) None
minus None = None

unfoldable pub word_signed : List ℕ → Option ℤ
word_signed s = cond (first s == 45) (minus (word_decimal (drop 1 s))) (plain (word_decimal s))

-- ---- numbers

-- 16 hex digits are the bits
abbrev pub of_pattern : Option ℕ → Option Float
of_pattern (Some n) = Some (bits n)
of_pattern None = None

unfoldable pub pattern_of : List ℕ → Option Float
pattern_of s = cond (length s == 16) (of_pattern (word_digits 16 0 s)) None

-- the digits behind the point, and all digits
abbrev pub decimals : List ℕ → List ℕ
decimals s = drop 1 (from Point s)

abbrev pub all_digits : List ℕ → List ℕ
all_digits s = up_to Point s ++ decimals s

-- a digit or more before the point, a digit or more behind it if it is there, at most 15 digits in all
unfoldable pub well_formed : List ℕ → Bool
well_formed s = not (length (up_to Point s) == 0) && (not (length (from Point s) == 1) && nat_le (length (all_digits s)) 15)

-- the whole number n divided once by the power of ten
abbrev pub over_ten : ℕ → Option ℕ → Option Float
over_ten k (Some n) = Some (Ieee.of_int binary64 (pos n) ⊘ Ieee.of_int binary64 (pos (10 ^ k)))
over_ten k None = None

unfoldable pub unsigned_of : List ℕ → Option Float
unsigned_of s = cond (well_formed s) (over_ten (length (decimals s)) (word_digits 10 0 (all_digits s))) None

abbrev pub negated : Option Float → Option Float
negated (Some x) = Some (Ieee.neg x)
negated None = None

-- `x` and the bits, or a decimal with an optional sign
unfoldable pub word_number : List ℕ → Option Float
word_number s =
    cond (first s == 120) (pattern_of (drop 1 s))
    (cond (first s == 45) (negated (unsigned_of (drop 1 s)))
    (cond (first s == 43) (unsigned_of (drop 1 s)) (unsigned_of s)))
