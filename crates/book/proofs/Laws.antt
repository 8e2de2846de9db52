-- Line by line, and how long what ends it can be. Assumes nothing.
use Prim.Native.Nat.{ℕ, min, ◌+◌, ◌^◌, ◌≤◌, ◌<◌}
use native.Mathlib.Omega.{arith}
use mathlib.Core.Path.{◌≡◌, refl, ap}
use mathlib.Core.List.{List, [], ◌∷◌}
use lib.ListN.{length, length-append}
use lib.Dec.{ltb, lit≤}
use Rattle.text.specs.Pieces.{concat}
use Rattle.text.proofs.Decimals.{at_most}
use Rattle.entry.specs.Entries.{entry_of}
use Rattle.enter.specs.declared.Fault.{Fault as FaultOf}
use Rattle.enter.specs.declared.Fault.TheVariants.{Refused, Unread}
use Rattle.std.specs.Prelude.{Err, Ok, Result}
use mathlib.Core.Bool.{Bool, true, false, cond}
use borrow.Author.Tests.{ltb-true, ltb-false}
use Rattle.enter.proofs.Within.{within-by}
use Rattle.refusal.specs.declared.Refusal.{Refusal}
use Rattle.refusal.specs.Refusals.{number_of}
use Rattle.enter.specs.Enter.{entered_by, session_of}
use Rattle.book.specs.declared.Progress.{Progress}
use Rattle.book.specs.declared.Ended.{Ended as EndedOf}
use Rattle.book.specs.Book.{Ended, one_more, as_progress, progress_by, progress_of, progress_over_by, progress_over, written_over_by, written_by, tell_room, fault_pieces, told_pieces_by, tell_pieces_by, tell_pieces}

-- one line more
pub counted : (n : ℕ) → n < 2 ^ 64 → min (n + 1) 18446744073709551615 ≡ one_more n
unfolding one_more
counted n h = by n (ltb n 18446744073709551615) refl h
  where
    by : (n : ℕ) (b : Bool) → ltb n 18446744073709551615 ≡ b → n < 2 ^ 64 → min (n + 1) 18446744073709551615 ≡ cond b (n + 1) n
    by n true e h = omega (arith, ltb-true n 18446744073709551615 e)
    by n false e h = omega (arith, ltb-false n 18446744073709551615 e)

-- ---- with anything in the place of a refusal

-- no line, and one line more
pub turns-none-by : {R : Type 0} (given : Refusal → R) (d : List ℕ) (t : Result Progress (EndedOf R)) → (progress_over_by given [] d t ≡ t) × (written_over_by given [] d t ≡ d)
turns-none-by given d t = (refl, refl)

pub turns-more-by : {R : Type 0} (given : Refusal → R) (d : List ℕ) (p : Progress) (line : List ℕ) (lines : List (List ℕ))
    → (progress_over_by given (line ∷ lines) d (Ok p) ≡ progress_over_by given lines (session_of d p.at (entry_of line)) (progress_by given d p line))
    × (written_over_by given (line ∷ lines) d (Ok p) ≡ written_over_by given lines (session_of d p.at (entry_of line)) (progress_by given d p line))
turns-more-by given d p line lines = (refl, refl)

-- what has ended it, ends it
pub turns-ended-by : {R : Type 0} (given : Refusal → R) (d : List ℕ) (e : EndedOf R) (lines : List (List ℕ)) → progress_over_by given lines d (Err e) ≡ Err e
turns-ended-by given d e [] = refl
turns-ended-by given d e (line ∷ lines) = refl

-- the place stays within the buffer
going : {R : Type 0} (n : ℕ) (e : Result ℕ (FaultOf R)) (y : Progress) → as_progress n e ≡ Ok y → e ≡ Ok y.at
going n (Ok at) y h = let w : ◌≡◌ {A = Progress} (record { at = at; count = n }) y = cc in ap (λ (x : Progress). Ok x.at) w
going n (Err f) y h = absurd (cc)

pub turn-within-by : {R : Type 0} (given : Refusal → R) (d : List ℕ) (p : Progress) (line : List ℕ) (y : Progress)
    → p.at ≤ length d → progress_by given d p line ≡ Ok y → y.at ≤ length d
turn-within-by given d p line y h e = within-by given d p.at (entry_of line) y.at h (going (one_more p.count) (entered_by given d p.at (entry_of line)) y e)

told-fits : {R : Type 0} (number : R → ℕ) (line : ℕ) (f : FaultOf R) → length (concat (told_pieces_by number line f)) ≤ tell_room
unfolding concat fault_pieces
told-fits number l (Unread w) = simp length-append (omega (arith, at_most 20 l, at_most 20 w))
told-fits number l (Refused n) = simp length-append (omega (arith, at_most 20 l, at_most 20 (number n)))

pub tell-by-fits : {R : Type 0} (number : R → ℕ) (t : Result Progress (EndedOf R)) → length (concat (tell_pieces_by number t)) ≤ tell_room
unfolding concat
tell-by-fits number (Ok p) = lit≤ tt
tell-by-fits number (Err e) = told-fits number e.line e.fault

-- ---- with the refusal itself

pub turns-none : (d : List ℕ) (t : Result Progress Ended) → (progress_over [] d t ≡ t) × (written_by [] d t ≡ d)
unfolding progress_over written_by
turns-none d t = turns-none-by (λ r. r) d t

pub turns_more : (d : List ℕ) (p : Progress) (line : List ℕ) (lines : List (List ℕ))
    → (progress_over (line ∷ lines) d (Ok p) ≡ progress_over lines (session_of d p.at (entry_of line)) (progress_of d p line))
    × (written_by (line ∷ lines) d (Ok p) ≡ written_by lines (session_of d p.at (entry_of line)) (progress_of d p line))
unfolding progress_over written_by
turns_more d p line lines = turns-more-by (λ r. r) d p line lines

pub turns-ended : (d : List ℕ) (e : Ended) (lines : List (List ℕ)) → progress_over lines d (Err e) ≡ Err e
unfolding progress_over
turns-ended d e lines = turns-ended-by (λ r. r) d e lines

pub turn-within : (d : List ℕ) (p : Progress) (line : List ℕ) (y : Progress) → p.at ≤ length d → progress_of d p line ≡ Ok y → y.at ≤ length d
turn-within d p line y h e = turn-within-by (λ r. r) d p line y h e

pub tell-fits : (t : Result Progress Ended) → length (concat (tell_pieces t)) ≤ tell_room
tell-fits t = tell-by-fits number_of t
