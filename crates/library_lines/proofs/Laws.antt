-- What becomes of the line's buffer, by case. Assumes nothing.
use Rattle.std.specs.Prelude.{Err, Ok, Result}
use Rattle.refusal.specs.declared.Refusal.{Refusal}
use Prim.Native.Nat.{ℕ}
use mathlib.Core.Path.{◌≡◌, refl}
use mathlib.Core.Bool.{Bool, true, false, cond}
use mathlib.Core.List.{List}
use lib.Dec.{ltb}
use lib.IntN.{ℤ}
use lib.ListN.{length}
use lib.Ieee.{Float}
use Rattle.session.specs.declared.record.Kind.{Kind}
use Rattle.session.specs.declared.record.Kind.TheVariants.{State, Burn, Mark}
use Rattle.session.specs.Layout as Y
use Rattle.lines.specs.Days.{local_of}
use Rattle.lines.specs.Lines.{record_text, event_text}
use Rattle.lent.specs.Given.{GivenWholes, told_number, wholes_after, room_for, in_front, bytes_after}
use Rattle.library_lines.specs.Listing.{by_number, made_number, made_wholes, GivenMade, made_told, line_made}

-- a refusal that is given by its number is given as that refusal
pub told-by-number : (enough : Bool) (a : Result ℕ Refusal) {b : Result ℕ ℕ} {w v : List ℕ} {r : ℕ} → b ≡ by_number a → GivenMade enough b w v r → GivenWholes (room_for enough (made_told a)) w v r
unfolding told_number wholes_after room_for made_told made_number made_wholes
told-by-number false a e g = record { number = g.number; wholes = g.wholes }
told-by-number true (Ok n) e g = let h = rw e at g in record { number = h.number; wholes = h.wholes }
told-by-number true (Err x) e g = let h = rw e at g in record { number = h.number; wholes = h.wholes }

made : (a : Bool) (k : ℕ) (x d : List ℕ) → cond a d x ≡ bytes_after (made_told (cond a (Err Refusal.NoRoom) (Ok k))) x d
unfolding bytes_after made_told
made true k x d = refl
made false k x d = refl

-- a line at the front, and a shorter buffer as it was
pub line-bytes : (room : ℕ) (x d : List ℕ) → cond (ltb (length d) room) d (in_front x d) ≡ bytes_after (room_for true (made_told (line_made room x d))) (in_front x d) d
unfolding room_for
line-bytes room x d = made (ltb (length d) room) (length x) (in_front x d) d

-- of a record the line has the kind, the vehicle and the time
pub line-of : (k : Kind) (v b : ℕ) (t : ℤ) (x : ℕ → Float) (o : ℤ) → record_text o (Y.record_with k v b t x) ≡ event_text (local_of t o) v k
line-of State v b t x o = refl
line-of Burn v b t x o = refl
line-of Mark v b t x o = refl
