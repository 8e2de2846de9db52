-- Numbers as text: six places for people, and the exact bits. Assumes nothing: these are definitions.
use Rattle.std.specs.Prelude.{ℕ, zero, suc, ◌*◌, ◌/◌, ◌%◌, ◌^◌, Bool, true, false, cond, List, [], ◌∷◌, ◌++◌, leb, Float}
use Rattle.std.specs.Float.{nan, inf, fin, binary64}
use Rattle.std.specs.Float.Ieee.{up, down, is_nan, to_bits}
use Rattle.text.specs.Text.{ascii, digit_text, decimal}

-- the last k digits of n to a base
unfoldable pub places : ℕ → ℕ → ℕ → List ℕ
places base zero n = []
places base (suc k) n = places base k (n / base) ++ (digit_text (n % base) ∷ [])

abbrev pub nan_text : List ℕ
nan_text = ascii "nan"

abbrev pub large_text : List ℕ
large_text = ascii "large"

abbrev pub minus_text : Bool → List ℕ
minus_text true = ascii "-"
minus_text false = []

-- a sign and n millionths
abbrev pub millionths : Bool → ℕ → List ℕ
millionths s n = ((minus_text s ++ decimal (n / 1000000)) ++ ascii ".") ++ places 10 6 n

-- x to six places, cut towards zero, with the sign that it has; `large` for a size of 2^43 or more
unfoldable pub fixed_of : Float → List ℕ
fixed_of nan = nan_text
fixed_of (inf s) = large_text
fixed_of (fin s m e) = cond (leb (2 ^ 43 * down e) (m * up e)) large_text (millionths s (m * up e * 1000000 / down e))

-- `x` and the 16 digits of the bits
unfoldable pub bits_text : Float → List ℕ
bits_text x = cond (is_nan x) nan_text (ascii "x" ++ places 16 16 (to_bits binary64 x))
