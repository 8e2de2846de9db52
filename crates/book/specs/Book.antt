-- Lines entered one behind the other. Assumes nothing: these are definitions.
use Rattle.std.specs.Prelude.{ℕ, ◌+◌, List, [], ◌∷◌, cond, ltb, Err, Ok, Result}
use Rattle.refusal.specs.declared.Refusal.{Refusal}
use Rattle.refusal.specs.Refusals.{number_of}
use Rattle.text.specs.Text.{ascii, decimal}
use Rattle.text.specs.Pieces.{concat}
use Rattle.entry.specs.Entries.{entry_of}
use Rattle.enter.specs.declared.Fault.{Fault as FaultOf}
use Rattle.enter.specs.declared.Fault.TheVariants.{Refused, Unread}
use Rattle.enter.specs.Enter.{Fault, entered_by, session_of}
use Rattle.book.specs.declared.Progress.{Progress}
use Rattle.book.specs.declared.Ended.{Ended as EndedOf}

-- with a `Refusal`; EndedOf R has an R in its place
abbrev pub Ended : Type 0
Ended = EndedOf Refusal

-- ---- one line

-- one line more, up to 2^64 - 1
unfoldable pub one_more : ℕ → ℕ
one_more n = cond (ltb n 18446744073709551615) (n + 1) n

abbrev pub as_progress : {R : Type 0} → ℕ → Result ℕ (FaultOf R) → Result Progress (EndedOf R)
as_progress n (Ok at) = Ok (record { at = at; count = n })
as_progress n (Err f) = Err (record { line = n; fault = f })

-- the line after those that were read, entered into the session d; `given` is what stands for a refusal in the answer
abbrev pub progress_by : {R : Type 0} → (Refusal → R) → List ℕ → Progress → List ℕ → Result Progress (EndedOf R)
progress_by given d p line = as_progress (one_more p.count) (entered_by given d p.at (entry_of line))

abbrev pub progress_of : List ℕ → Progress → List ℕ → Result Progress Ended
progress_of d p line = progress_by (λ r. r) d p line

-- ---- all lines

-- line by line, until one ends it
abbrev pub progress_over_by : {R : Type 0} → (Refusal → R) → List (List ℕ) → List ℕ → Result Progress (EndedOf R) → Result Progress (EndedOf R)
progress_over_by given [] d t = t
progress_over_by given (line ∷ lines) d (Ok p) = progress_over_by given lines (session_of d p.at (entry_of line)) (progress_by given d p line)
progress_over_by given (line ∷ lines) d (Err e) = Err e

unfoldable pub progress_over : List (List ℕ) → List ℕ → Result Progress Ended → Result Progress Ended
progress_over lines d t = progress_over_by (λ r. r) lines d t

-- and what becomes of the buffer
abbrev pub written_over_by : {R : Type 0} → (Refusal → R) → List (List ℕ) → List ℕ → Result Progress (EndedOf R) → List ℕ
written_over_by given [] d t = d
written_over_by given (line ∷ lines) d (Ok p) = written_over_by given lines (session_of d p.at (entry_of line)) (progress_by given d p line)
written_over_by given (line ∷ lines) d (Err e) = d

unfoldable pub written_by : List (List ℕ) → List ℕ → Result Progress Ended → List ℕ
written_by lines d t = written_over_by (λ r. r) lines d t

-- ---- what ended it, as a line

-- the bytes that hold it
abbrev pub tell_room : ℕ
tell_room = 64

unfoldable pub fault_pieces : ℕ → List ℕ → ℕ → List (List ℕ)
fault_pieces line word n = ascii "line " ∷ decimal line ∷ word ∷ decimal n ∷ ascii "\n" ∷ []

-- `line L: unread W`, `line L: refused N`, N being the `number` of the refusal
abbrev pub told_pieces_by : {R : Type 0} → (R → ℕ) → ℕ → FaultOf R → List (List ℕ)
told_pieces_by number line (Unread word) = fault_pieces line (ascii ": unread ") word
told_pieces_by number line (Refused r) = fault_pieces line (ascii ": refused ") (number r)

abbrev pub tell_pieces_by : {R : Type 0} → (R → ℕ) → Result Progress (EndedOf R) → List (List ℕ)
tell_pieces_by number (Ok p) = []
tell_pieces_by number (Err e) = told_pieces_by number e.line e.fault

abbrev pub tell_text_by : {R : Type 0} → (R → ℕ) → Result Progress (EndedOf R) → List ℕ
tell_text_by number t = concat (tell_pieces_by number t)

abbrev pub told_pieces : ℕ → Fault → List (List ℕ)
told_pieces line f = told_pieces_by number_of line f

abbrev pub tell_pieces : Result Progress Ended → List (List ℕ)
tell_pieces t = tell_pieces_by number_of t

abbrev pub tell_text : Result Progress Ended → List ℕ
tell_text t = tell_text_by number_of t
