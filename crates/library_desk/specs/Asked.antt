-- The desk's line as a number and a case. Assumes nothing: these are definitions.
use Rattle.std.specs.Prelude.{ℕ, List}
use Rattle.reply.specs.Replies.{reply_room, reply_text}
use Rattle.lent.specs.Given.{Told, in_front, bytes_after}
use Rattle.library_lines.specs.Listing.{line_in}

-- the answer's line, by the settings in their used part
abbrev pub ask_in : List ℕ → List ℕ → List ℕ → List ℕ → Told
ask_in used line d w = line_in reply_room (reply_text used line) d w

abbrev pub ask_after : List ℕ → List ℕ → List ℕ → List ℕ → List ℕ
ask_after used line d w = bytes_after (ask_in used line d w) (in_front (reply_text used line) d) d
