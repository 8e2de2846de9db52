-- Laws of one digit. Assumes nothing.
use Rattle.std.proofs.Common.{◌≡◌, ℕ, ◌<◌, ◌≤◌, true, false, leb, ◌⊎◌, refl, inl, inr, le-leb}
use mathlib.Core.Bool.{and-false}
use borrow.Author.Tests.{lt-leb}
use Rattle.numerals.specs.Numbers.{between}

pub outside : (lo hi b : ℕ) → (b < lo) ⊎ (hi < b) → between lo hi b ≡ false
outside lo hi b (inl h) = rw (lt-leb lo b h) refl
outside lo hi b (inr h) = rw (lt-leb b hi h) (and-false (leb lo b))

pub inside : (lo hi b : ℕ) → lo ≤ b → b ≤ hi → between lo hi b ≡ true
inside lo hi b h k = rw (le-leb lo b h, le-leb b hi k) refl
