-- The lines of a session that comes in parts. Assumes nothing: these are definitions.
use Rattle.refusal.specs.declared.Refusal.{Refusal}
use Rattle.std.specs.Prelude.{ℕ, List, [], ◌∷◌, ◌++◌, cond, length, ltb, Err, Ok, Result}
use Rattle.session.specs.declared.Reading.{Reading}
use Rattle.lines.specs.Lines.{line_room, heading_text, record_text, refused_text}
use Rattle.report.specs.Listing.{step_for}
use Rattle.stream.specs.declared.Standing.{Standing}
use Rattle.stream.specs.declared.Standing.TheVariants.{Open, Refused, Ended}
use Rattle.stream.specs.declared.Step.{Step}
use Rattle.stream.specs.declared.Step.TheVariants as S
use Rattle.stream.specs.Stream.{Ending, ended, refused, Run, whole_run}

-- the line of what was read, as the listing has it
abbrev pub reading_text : Reading → List ℕ
reading_text a = (step_for a).line

unfoldable pub readings_text : List Reading → List ℕ
readings_text [] = []
readings_text (a ∷ xs) = reading_text a ++ readings_text xs

-- only a refusal has a last line
abbrev pub ending_text : Ending → List ℕ
ending_text ended = []
ending_text (refused n at) = refused_text n at

abbrev pub run_text : Run → List ℕ
run_text x = readings_text x.readings ++ ending_text x.ending

-- the listing of a session of whatever length
abbrev pub watch_of : List ℕ → List ℕ
watch_of s = heading_text ++ run_text (whole_run s)

-- the line of a step of code
abbrev pub last_text : Standing → List ℕ
last_text (Open p k) = []
last_text (Refused n at) = refused_text n at
last_text Ended = []

abbrev pub step_text : Step → List ℕ
step_text (S.Record r q at) = record_text q.offset r
step_text (S.Offset q at) = []
step_text (S.Stopped x) = last_text x

abbrev pub no_line : List ℕ → Result ℕ Refusal
no_line d = cond (ltb (length d) line_room) (Err Refusal.NoRoom) (Ok 0)
