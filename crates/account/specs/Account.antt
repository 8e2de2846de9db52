-- The account of a replay, line by line, and whole. Assumes nothing: these are definitions.
use Rattle.refusal.specs.declared.Refusal.{Refusal}
use Rattle.std.specs.Prelude.{ℕ, zero, suc, ◌+◌, ◌≡◌, List, [], ◌∷◌, ◌++◌, Bool, true, false, cond, length, drop, ltb, Err, Ok, Result}
use Rattle.refusal.specs.declared.Refusal.TheVariants as Refusal
use Rattle.refusal.specs.Refusals.{number_of}
use Rattle.text.specs.Text.{ascii}
use Rattle.text.specs.Pieces.{concat}
use Rattle.session.specs.declared.record.Record.{Record}
use Rattle.session.specs.declared.Reading.{Reading}
use Rattle.session.specs.declared.Reading.TheVariants as A
use Rattle.session.specs.declared.Place.{Place}
use Rattle.session.specs.Read.{start, read_at}
use Rattle.flight.specs.declared.Mu.{Mu}
use Rattle.replay.specs.declared.Replay.{Replay}
use Rattle.replay.specs.Replay as S
use Rattle.tracks.specs.Tracks.{heading_pieces, record_pieces, vehicle_pieces}
use Rattle.lines.specs.Lines.{refused_pieces}
use Rattle.account.specs.declared.Next.{Next}
use Rattle.account.specs.declared.Next.TheVariants.{Heading, At, First, Second, Done}
use Rattle.account.specs.declared.Told.{Told}

-- a line, what comes after it, and the vehicles then
pub record Step : Type 0 where
  pub line : List ℕ
  pub next : Next
  pub replay : Replay

abbrev pub line_then : List (List ℕ) → Next → Replay → Step
line_then xs next p = record { line = concat xs; next = next; replay = p }

-- a record takes its step and has its line, by the clock of its place; the offset's record has none and changes no vehicle; the
-- end has none; where the reader refuses, its line is the last ahead of the vehicles
unfoldable pub step_for : Mu → Replay → Reading → Step
step_for mu p (A.Record r q) = line_then (record_pieces q.offset r (S.step_of mu p r).answer) (At q) (S.step_of mu p r).replay
step_for mu p (A.Offset q) = line_then [] (At q) p
step_for mu p A.End = line_then [] First p
step_for mu p (A.Refused n q) = line_then (refused_pieces (ascii "refused ") (number_of n) q.at) First p

abbrev pub step_at : Mu → List ℕ → Place → Replay → Step
step_at mu s q p = step_for mu p (read_at s q)

-- the heading, what is read from the start on, then the two vehicles
unfoldable pub step_of : Mu → List ℕ → Next → Replay → Step
step_of mu s Heading p = line_then heading_pieces (At start) p
step_of mu s (At q) p = step_at mu s q p
step_of mu s First p = line_then (vehicle_pieces 0 p.v0) Second p
step_of mu s Second p = line_then (vehicle_pieces 1 p.v1) Done p
step_of mu s Done p = line_then [] Done p

-- one step at the front of d
pub record Stepped (t : Step) (d e : List ℕ) (r : Told) : Type 0 where
  pub count : r.length ≡ length t.line
  pub after : r.next ≡ t.next
  pub replay : r.replay ≡ t.replay
  pub buffer : e ≡ t.line ++ drop (length t.line) d

-- the same, unless d is under 512 bytes: then it stays as it was, and the answer is 15
pub record Telling (mu : Mu) (s : List ℕ) (next : Next) (p : Replay) (d e : List ℕ) (r : Result Told Refusal) : Type 0 where
  pub answer : r ≡ cond (ltb (length d) 512) (Err Refusal.NoRoom) (Ok (record { length = length (step_of mu s next p).line; next = (step_of mu s next p).next; replay = (step_of mu s next p).replay }))
  pub buffer : e ≡ cond (ltb (length d) 512) d ((step_of mu s next p).line ++ drop (length (step_of mu s next p).line) d)

abbrev pub is_done : Next → Bool
is_done Heading = false
is_done (At q) = false
is_done First = false
is_done Second = false
is_done Done = true

-- ---- the whole: step after step, at most f of them

unfoldable pub text_in : ℕ → Mu → List ℕ → Next → Replay → List ℕ
text_in zero mu s next p = []
text_in (suc f) mu s next p = (step_of mu s next p).line ++ text_in f mu s (step_of mu s next p).next (step_of mu s next p).replay

-- the heading, no more records than bytes, the end, and two vehicles
abbrev pub account_of : Mu → List ℕ → List ℕ
account_of mu s = text_in (length s + 4) mu s Heading S.nobody

-- the vehicles at the end of it
unfoldable pub last_in : ℕ → Mu → List ℕ → Next → Replay → Replay
last_in zero mu s next p = p
last_in (suc f) mu s next p = last_in f mu s (step_of mu s next p).next (step_of mu s next p).replay

-- the records of a session from a place on, up to where the reader ends or refuses, at most f of them
unfoldable pub record_then : Reading → (Place → List Record) → List Record
record_then (A.Record r q) rest = r ∷ rest q
record_then (A.Offset q) rest = rest q
record_then A.End rest = []
record_then (A.Refused n q) rest = []

unfoldable pub records_in : ℕ → List ℕ → Place → List Record
records_in zero s q = []
records_in (suc f) s q = record_then (read_at s q) (records_in f s)
