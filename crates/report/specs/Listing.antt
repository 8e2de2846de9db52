-- The listing of a session, and what a buffer is filled with. Assumes nothing: these are definitions.
use Rattle.refusal.specs.declared.Refusal.{Refusal}
use Rattle.refusal.specs.Refusals.{number_of}
use Rattle.std.specs.Prelude.{ℕ, zero, suc, ◌+◌, ◌-◌, ◌≡◌, List, [], ◌∷◌, ◌++◌, Bool, true, false, cond, length, drop, ltb, Err, Ok, Result}
use Rattle.session.specs.declared.Reading.{Reading}
use Rattle.session.specs.declared.Reading.TheVariants.{Record, Offset, End, Refused}
use Rattle.session.specs.declared.Place.{Place}
use Rattle.session.specs.Read.{start, read_at}
use Rattle.lines.specs.Lines.{heading_text, record_text, refused_text}
use Rattle.report.specs.declared.Next.{Next}
use Rattle.report.specs.declared.Next.TheVariants.{Heading, At, Done}
use Rattle.report.specs.declared.Filled.{Filled}

-- a line, and what comes after it
pub record Step : Type 0 where
  pub line : List ℕ
  pub next : Next

-- a record has its line, by the clock of its place, and the listing goes on behind it; the offset's record has none, and
-- the listing goes on with its offset; the end has none; a refused record ends the listing
abbrev pub step_for : Reading → Step
step_for (Record r p) = record { line = record_text p.offset r; next = At p }
step_for (Offset p) = record { line = []; next = At p }
step_for End = record { line = []; next = Done }
step_for (Refused n p) = record { line = refused_text (number_of n) p.at; next = Done }

abbrev pub step_at : List ℕ → Place → Step
step_at s p = step_for (read_at s p)

-- the heading, then what is read from the start on
abbrev pub step_of : List ℕ → Next → Step
step_of s Heading = record { line = heading_text; next = At start }
step_of s (At p) = step_at s p
step_of s Done = record { line = []; next = Done }

-- step after step until the last, at most f of them
unfoldable pub steps_in : ℕ → List ℕ → Next → List Step
steps_in zero s next = []
steps_in (suc f) s Heading = step_of s Heading ∷ steps_in f s (step_of s Heading).next
steps_in (suc f) s (At p) = step_of s (At p) ∷ steps_in f s (step_of s (At p)).next
steps_in (suc f) s Done = []

-- all of them: the heading, the end and no more records than bytes
abbrev pub steps_from : List ℕ → Next → List Step
steps_from s next = steps_in (length s + 2) s next

unfoldable pub text_of : List Step → List ℕ
text_of [] = []
text_of (t ∷ ts) = t.line ++ text_of ts

-- the listing of the session's bytes, whole
abbrev pub listing_of : List ℕ → List ℕ
listing_of s = text_of (steps_from s Heading)

-- the lines that are made while 40 bytes of a room are left, and what comes next
unfoldable pub text_in : ℕ → List Step → List ℕ
text_in room [] = []
text_in room (t ∷ ts) = cond (ltb room 40) [] (t.line ++ text_in (room - length t.line) ts)

unfoldable pub next_in : ℕ → Next → List Step → Next
next_in room next [] = next
next_in room next (t ∷ ts) = cond (ltb room 40) next (next_in (room - length t.line) t.next ts)

-- d is filled from its front, which makes e; the bytes past the lines stay as they were
pub record Fills (s : List ℕ) (next : Next) (d e : List ℕ) (r : Filled) : Type 0 where
  pub count : r.length ≡ length (text_in (length d) (steps_from s next))
  pub after : r.next ≡ next_in (length d) next (steps_from s next)
  pub buffer : e ≡ text_in (length d) (steps_from s next) ++ drop r.length d

-- the same, unless d is under 40 bytes: then it stays as it was, and the answer is 15
pub record FillOf (s : List ℕ) (next : Next) (d e : List ℕ) (r : Result Filled Refusal) : Type 0 where
  pub answer : r ≡ cond (ltb (length d) 40) (Err Refusal.NoRoom) (Ok (record { length = length (text_in (length d) (steps_from s next)); next = next_in (length d) next (steps_from s next) }))
  pub buffer : e ≡ cond (ltb (length d) 40) d (text_in (length d) (steps_from s next) ++ drop (length (text_in (length d) (steps_from s next))) d)

-- one step at the front of d
pub record Stepped (t : Step) (d e : List ℕ) (r : Filled) : Type 0 where
  pub count : r.length ≡ length t.line
  pub after : r.next ≡ t.next
  pub buffer : e ≡ t.line ++ drop (length t.line) d

abbrev pub is_done : Next → Bool
is_done Heading = false
is_done (At p) = false
is_done Done = true
