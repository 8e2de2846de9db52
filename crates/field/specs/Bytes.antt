-- Numbers as bytes, little-endian. Assumes nothing: these are definitions.
use Rattle.std.specs.Prelude.{ℕ, zero, suc, ◌+◌, ◌*◌, ◌/◌, ◌%◌, min, List, [], ◌∷◌, take, drop, ℤ}
use Rattle.std.specs.Int.{w16, w64}
use Rattle.std.proofs.Common.{to_z, of_z}

-- the number that bytes stand for, the least significant first
abbrev pub le : List ℕ → ℕ
le [] = 0
le (b ∷ bs) = b + 256 * le bs

-- the w bytes of n, the least significant first
unfoldable pub bytes_le : ℕ → ℕ → List ℕ
bytes_le zero n = []
bytes_le (suc w) n = (n % 256) ∷ bytes_le w (n / 256)

-- the w bytes from o on, as a number
abbrev pub field : ℕ → ℕ → List ℕ → ℕ
field o w s = le (take w (drop o s))

-- at most eight of them
abbrev pub read_of : ℕ → ℕ → List ℕ → ℕ
read_of o w s = field o (min w 8) s

-- 64 bits in two's complement, and the bits of a signed number
abbrev pub signed_of : ℕ → ℤ
signed_of n = to_z w64 n

abbrev pub bits_of : ℤ → ℕ
bits_of z = of_z w64 z

-- the same for 16 bits
abbrev pub short_of : ℕ → ℤ
short_of n = to_z w16 n

abbrev pub short_bits : ℤ → ℕ
short_bits z = of_z w16 z
