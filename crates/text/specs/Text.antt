-- Text put into a buffer at a place, and numbers as text. Assumes nothing: these are definitions.
use Rattle.refusal.specs.declared.Refusal.{Refusal}
use Prim.Native.Char.{code}
use Prim.Native.String.{String, [] as []ˢ, ◌∷◌ as ◌∷ˢ◌}
use Rattle.std.specs.Prelude.{ℕ, zero, suc, ◌+◌, ◌-◌, ◌/◌, ◌%◌, ◌^◌, ◌≤◌, ◌<◌, ◌≡◌, List, [], ◌∷◌, ◌++◌, cond, length, take, drop, ltb, ℤ, pos, negsuc, Err, Ok, Result}

-- the codes of a text, as it is written
abbrev pub ascii : String → List ℕ
ascii []ˢ = []
ascii (c ∷ˢ s) = code c ∷ ascii s

-- the place at which no text fits
abbrev pub nowhere : ℕ
nowhere = 2 ^ 64 - 1

-- x stands in d from `at` on and all else is as it was: that is e, and r is the place behind x
pub record Stands (d : List ℕ) (at : ℕ) (x : List ℕ) (e : List ℕ) (r : ℕ) : Type 0 where
  pub next : r ≡ at + length x
  pub within : r ≤ length d
  pub whole : e ≡ take at d ++ (x ++ drop r d)

-- the same, if it fits
abbrev pub IfFits : List ℕ → ℕ → List ℕ → List ℕ → ℕ → Type 0
IfFits d at x e r = at + length x ≤ length d → Stands d at x e r

-- x is put into d at a place, which makes e, and r is answered: x stands there if it fits, else d stays as it was
pub record Put (d : List ℕ) (at : ℕ) (x : List ℕ) (e : List ℕ) (r : ℕ) : Type 0 where
  pub fits : IfFits d at x e r
  pub lacks : length d < at + length x → (e ≡ d) × (r ≡ nowhere)

-- the line x made in the buffer d, which makes e, and r is answered: the line stands at the front and the bytes past it
-- as they were; if d has less than the room it stays as it was, and the answer is 15
pub record InFront (room : ℕ) (x d e : List ℕ) (r : Result ℕ Refusal) : Type 0 where
  pub answer : r ≡ cond (ltb (length d) room) (Err Refusal.NoRoom) (Ok (length x))
  pub buffer : e ≡ cond (ltb (length d) room) d (x ++ drop (length x) d)

-- `0` to `9`, `A` to `F`
unfoldable pub digit_text : ℕ → ℕ
digit_text d = cond (ltb d 10) (48 + d) (55 + d)

-- the decimal digits of n, at most the last `left` of them
unfoldable pub digits : ℕ → ℕ → List ℕ
digits zero n = []
digits (suc k) n = cond (ltb n 10) ((48 + n) ∷ []) (digits k (n / 10) ++ ((48 + n % 10) ∷ []))

-- n in decimal: twenty digits hold every 64-bit number
abbrev pub decimal : ℕ → List ℕ
decimal n = digits 20 n

-- z in decimal, with a minus in front where it is negative
abbrev pub signed_text : ℤ → List ℕ
signed_text (pos n) = decimal n
signed_text (negsuc n) = ascii "-" ++ decimal (n + 1)
