-- A whole number of up to 2^53 in size is an f64 itself, so that the cast loses nothing. Assumes nothing.
use Rattle.std.proofs.Common.{◌≡◌, ℕ, ◌^◌, ◌≤◌, true, T, ℤ, pos, negsuc, sym, subst, lt_of_le_of_lt, lit≤, le→leb, lt→ltb, leb→le}
use lib.Signed.{le_z}
use lib.Ieee.{binary64, in_float}

pub whole_in : (n : ℕ) → n ≤ 2 ^ 53 → T (in_float binary64 (pos n))
unfolding in_float
whole_in n h = le→leb n (2 ^ 53) h

pub signed-in : (n : ℤ) → le_z (negsuc 9007199254740991) n ≡ true → le_z n (pos 9007199254740992) ≡ true → T (in_float binary64 n)
unfolding in_float
signed-in (pos n) lower upper = whole_in n (leb→le n (2 ^ 53) (subst T (sym upper) tt))
signed-in (negsuc n) lower upper = lt→ltb n (2 ^ 53) (lt_of_le_of_lt (leb→le n 9007199254740991 (subst T (sym lower) tt)) (lit≤ tt))
