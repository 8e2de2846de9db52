-- A test as a person reads it: the number's name, its amount, what it must be, and the amount's bits. Assumes nothing: these
-- are definitions.
use Rattle.std.specs.Prelude.{ℕ, ◌-◌, ◌/◌, ◌%◌, ◌^◌, Bool, cond, ◌&&◌, List, [], ◌∷◌, ◌++◌, eqb, leb, ltb, Float}
use Rattle.std.specs.Float.{binary64}
use Rattle.std.specs.Float.Ieee.{eq, to_bits}
use Rattle.real.specs.F64.{bits}
use Rattle.text.specs.Text.{ascii, decimal}
use Rattle.figures.specs.Figures.{places, fixed_of}
use Rattle.table.specs.declared.Limit.{Limit}
use Rattle.table.specs.declared.Limit.TheVariants.{Finite, AtLeast, AtMost, Under, Over, SizeAtMost, SizeUnder, OneWithin}
use Rattle.table.specs.declared.Entry.{Entry as EntryOf}
use Rattle.names.specs.Names.{name_pieces}

-- ---- the number of a limit

-- bits that are a power of two's, from 2^-1022 to 2^1023, 2^0 among them: no sign, no digits, and an exponent's field
-- that is neither the least nor the greatest
unfoldable pub is_power : ℕ → Bool
is_power b = eqb (b % 2 ^ 52) 0 && (leb 1 (b / 2 ^ 52) && ltb (b / 2 ^ 52) 2047)

-- `2^K` by the exponent's field, which is K + 1023
unfoldable pub power_pieces : ℕ → List (List ℕ)
power_pieces e = cond (leb 1023 e) (ascii "2^" ∷ decimal (e - 1023) ∷ []) (ascii "2^-" ∷ decimal (1023 - e) ∷ [])

unfoldable pub other_pieces : Float → List (List ℕ)
other_pieces x = cond (is_power (to_bits binary64 x)) (power_pieces (to_bits binary64 x / 2 ^ 52)) (fixed_of x ∷ [])

-- `0`, `40`, `-50`, a power of two, and any other number to six places
unfoldable pub bound_pieces : Float → List (List ℕ)
bound_pieces x =
    cond (eq x (bits 0)) (ascii "0" ∷ [])
    (cond (eq x (bits 0x4044_0000_0000_0000)) (ascii "40" ∷ [])
    (cond (eq x (bits 0xC049_0000_0000_0000)) (ascii "-50" ∷ []) (other_pieces x)))

-- ---- what an amount must be

abbrev pub size_pieces : List ℕ → Float → List (List ℕ)
size_pieces word b = word ∷ (bound_pieces b ++ (ascii " in size" ∷ []))

abbrev pub limit_pieces : Limit → List (List ℕ)
limit_pieces Finite = ascii "finite" ∷ []
limit_pieces (AtLeast b) = ascii "at least " ∷ bound_pieces b
limit_pieces (AtMost b) = ascii "at most " ∷ bound_pieces b
limit_pieces (Under b) = ascii "under " ∷ bound_pieces b
limit_pieces (Over b) = ascii "over " ∷ bound_pieces b
limit_pieces (SizeAtMost b) = size_pieces (ascii "at most ") b
limit_pieces (SizeUnder b) = size_pieces (ascii "under ") b
limit_pieces (OneWithin b) = ascii "1 within " ∷ bound_pieces b

-- ---- the test

-- `x` and the 16 digits of the bits; a NaN has one pattern, x7FF8000000000000
unfoldable pub exact_of : Float → List ℕ
exact_of x = ascii "x" ++ places 16 16 (to_bits binary64 x)

-- ` D must be `
unfoldable pub amount_pieces : Float → List (List ℕ)
amount_pieces x = ascii " " ∷ fixed_of x ∷ ascii " must be " ∷ []

-- `NAME D must be LIMIT bits X`
unfoldable pub failed_pieces : {R : Type 0} → EntryOf R → List (List ℕ)
failed_pieces e =
    name_pieces e.name e.part
    ++ (amount_pieces e.amount ++ (limit_pieces e.limit ++ (ascii " bits " ∷ exact_of e.amount ∷ [])))
