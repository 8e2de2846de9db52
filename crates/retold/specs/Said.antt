-- The line of a record that can be written again, and what it is to say. Assumes nothing: these are definitions.
use Rattle.std.specs.Prelude.{ℕ, List, ◌++◌, ℤ}
use Rattle.text.specs.Text.{ascii, signed_text}
use Rattle.text.specs.Pieces.{concat}
use Rattle.columns.specs.declared.Style.TheVariants.{Places, Bits}
use Rattle.columns.specs.Rows.{row_pieces}
use Rattle.session.specs.declared.record.Record.{Record}
use Rattle.session.specs.declared.record.Record.TheVariants as R
use Rattle.session.specs.Layout.{kind_in, vehicle_in, time_in, numbers_in}
use Rattle.lines.specs.Days.{local_of}
use Rattle.script.specs.Script.{day_pieces, who_pieces, head_pieces, middle}
use Rattle.entry.specs.declared.line.Entry.{Entry}
use Rattle.entry.specs.declared.line.Entry.TheVariants.{State, Burn, Mark}

-- the second of a record's two lines, without its newline
abbrev pub line_text : Record → List ℕ
line_text r = concat (head_pieces (kind_in r) (time_in r) (vehicle_in r)) ++ (concat (middle r) ++ concat (row_pieces Bits (numbers_in r)))

abbrev pub offset_text : ℤ → List ℕ
offset_text z = ascii "offset " ++ signed_text z

-- the record as a line says it
abbrev pub said_of : Record → Entry
said_of (R.State r) = State r.time r.vehicle r.body r.state
said_of (R.Burn r) = Burn r.time r.vehicle r.change
said_of (R.Mark r) = Mark r.time r.vehicle r.range r.rate

-- the first of them
abbrev pub comment_text : ℤ → Record → List ℕ
comment_text o r = concat (day_pieces (local_of (time_in r) o)) ++ (concat (who_pieces (kind_in r) (vehicle_in r)) ++ concat (row_pieces Places (numbers_in r)))
