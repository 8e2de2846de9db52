-- How a call answers in lent memory. Assumes nothing: these are definitions.
use Rattle.std.specs.Prelude.{ℕ, ◌≡◌, Bool, cond, ◌&&◌, List, ◌++◌, leb, length, drop, get_or, Float}
use Rattle.std.specs.Float.{nan}
use Rattle.refusal.specs.declared.Refusal.{Refusal}
use Rattle.refusal.specs.Refusals.{number_of}
use Rattle.vector.specs.declared.Vector.{Vector}
use Rattle.vector.specs.declared.State.{State}

-- what a call comes to: an answer, in numbers and in whole numbers, or a refusal
pub data Told : Type 0 where
  answer : List Float → List ℕ → Told
  refused : Refusal → Told

-- 15 unless every lent array is long enough
unfoldable pub room_for : Bool → Told → Told
room_for enough t = cond enough t (refused Refusal.NoRoom)

-- 0 for an answer, and for a refusal its number
unfoldable pub told_number : Told → ℕ
told_number (answer xs zs) = 0
told_number (refused r) = number_of r

-- xs in the first places of d, the rest as it was
abbrev pub in_front : {A : Type 0} → List A → List A → List A
in_front xs d = xs ++ drop (length xs) d

-- the same where xs are at most 16 and fit, else all as it was
unfoldable pub put_in : {A : Type 0} → List A → List A → List A
put_in xs d = cond (leb (length xs) 16 && leb (length xs) (length d)) (in_front xs d) d

-- the arrays afterwards: refused, they are as they were
unfoldable pub numbers_after : Told → List Float → List Float
numbers_after (answer xs zs) d = in_front xs d
numbers_after (refused n) d = d

unfoldable pub wholes_after : Told → List ℕ → List ℕ
wholes_after (answer xs zs) w = in_front zs w
wholes_after (refused n) w = w

-- a lent buffer d afterwards: refused, it is as it was; else it is e
unfoldable pub bytes_after : Told → List ℕ → List ℕ → List ℕ
bytes_after (answer xs zs) e d = e
bytes_after (refused n) e d = d

-- t is given: r is returned, and the lent arrays d and w become e and v
pub record Given (t : Told) (d : List Float) (w : List ℕ) (e : List Float) (v : List ℕ) (r : ℕ) : Type 0 where
  pub number : r ≡ told_number t
  pub numbers : e ≡ numbers_after t d
  pub wholes : v ≡ wholes_after t w

-- the same where only numbers are lent
pub record GivenNumbers (t : Told) (d e : List Float) (r : ℕ) : Type 0 where
  pub number : r ≡ told_number t
  pub numbers : e ≡ numbers_after t d

-- the same where only whole numbers are lent
pub record GivenWholes (t : Told) (w v : List ℕ) (r : ℕ) : Type 0 where
  pub number : r ≡ told_number t
  pub wholes : v ≡ wholes_after t w

-- the first numbers of a lent array as a vector and as a state
abbrev pub vector_in : List Float → Vector
vector_in s = record { x = get_or s 0 nan; y = get_or s 1 nan; z = get_or s 2 nan }

abbrev pub state_in : List Float → State
state_in s = record { rx = get_or s 0 nan; ry = get_or s 1 nan; rz = get_or s 2 nan; vx = get_or s 3 nan; vy = get_or s 4 nan; vz = get_or s 5 nan }
