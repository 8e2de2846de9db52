-- What entering a line into a session does. Assumes nothing: these are definitions.
use Rattle.refusal.specs.declared.Refusal.{Refusal}
use Rattle.std.specs.Prelude.{ℕ, List, ℤ, Float, Err, Ok, Result}
use Rattle.vector.specs.declared.Vector.{Vector}
use Rattle.vector.specs.declared.State.{State}
use Rattle.session.specs.declared.record.Record.{Record}
use Rattle.session.specs.declared.record.Record.TheVariants as R
use Rattle.writer.specs.Write.{written_of, buffer_of, offset_written, offset_buffer}
use Rattle.entry.specs.declared.line.Entry.{Entry}
use Rattle.entry.specs.declared.line.Entry.TheVariants as E
use Rattle.enter.specs.declared.Fault.{Fault as FaultOf}
use Rattle.enter.specs.declared.Fault.TheVariants.{Refused, Unread}

-- the record of what a line says, whether it is allowed or not
abbrev pub state_record : ℤ → ℕ → ℕ → State → Record
state_record t v b s = R.State (record { vehicle = v; body = b; time = t; state = s })

abbrev pub burn_record : ℤ → ℕ → Vector → Record
burn_record t v d = R.Burn (record { vehicle = v; time = t; change = d })

abbrev pub mark_record : ℤ → ℕ → Float → Float → Record
mark_record t v x y = R.Mark (record { vehicle = v; time = t; range = x; rate = y })

-- what is answered of an entry: that of the writer, and the same place where nothing is said
abbrev pub entry_written : List ℕ → ℕ → Entry → Result ℕ Refusal
entry_written d at E.Nothing = Ok at
entry_written d at (E.Offset z) = offset_written d at z
entry_written d at (E.State t v b s) = written_of d at (state_record t v b s)
entry_written d at (E.Burn t v c) = written_of d at (burn_record t v c)
entry_written d at (E.Mark t v x y) = written_of d at (mark_record t v x y)

-- and what becomes of the buffer
abbrev pub entry_session : List ℕ → ℕ → Entry → List ℕ
entry_session d at E.Nothing = d
entry_session d at (E.Offset z) = offset_buffer d at z
entry_session d at (E.State t v b s) = buffer_of d at (state_record t v b s)
entry_session d at (E.Burn t v c) = buffer_of d at (burn_record t v c)
entry_session d at (E.Mark t v x y) = buffer_of d at (mark_record t v x y)

-- with a `Refusal`; FaultOf R has an R in its place
abbrev pub Fault : Type 0
Fault = FaultOf Refusal

-- `given` is what stands for a refusal in the answer: itself, or its number
abbrev pub as_entered_by : {R : Type 0} → (Refusal → R) → Result ℕ Refusal → Result ℕ (FaultOf R)
as_entered_by given (Ok n) = Ok n
as_entered_by given (Err r) = Err (Refused (given r))

-- of a line, by what it says: the entry's answer, or the word that cannot be read
abbrev pub entered_by : {R : Type 0} → (Refusal → R) → List ℕ → ℕ → Result Entry ℕ → Result ℕ (FaultOf R)
entered_by given d at (Ok e) = as_entered_by given (entry_written d at e)
entered_by given d at (Err w) = Err (Unread w)

abbrev pub as_entered : Result ℕ Refusal → Result ℕ Fault
as_entered w = as_entered_by (λ r. r) w

abbrev pub entered_of : List ℕ → ℕ → Result Entry ℕ → Result ℕ Fault
entered_of d at e = entered_by (λ r. r) d at e

abbrev pub session_of : List ℕ → ℕ → Result Entry ℕ → List ℕ
session_of d at (Ok e) = entry_session d at e
session_of d at (Err w) = d
