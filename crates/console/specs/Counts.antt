-- What the contracts say of a count of bytes at the front of a buffer.
use Rattle.std.specs.Prelude.{◌≡◌, ℕ, ◌≤◌, List, length, take}

-- `&xs[..n]` is within the buffer and has n bytes. The second part follows from the first, and spares a caller a proof of
-- its own for `&buf[..n]`.
abbrev pub IsPrefixLen : ℕ → List ℕ → Type 0
IsPrefixLen n xs = (n ≤ length xs) × (n ≡ length (take n xs))
