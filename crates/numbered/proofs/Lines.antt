-- A line of the listing: 0 is returned where the line was made, and nowhere else. Assumes nothing.
use Prim.Native.Nat.{ℕ}
use mathlib.Core.List.{List}
use lib.IntN.{ℤ}
use Rattle.lines.specs.Lines.{line_room, heading_text, refused_text}
use Rattle.library_lines.specs.Listing.{line_in, record_line, record_line_in}
use Rattle.numbered.specs.Zero.{ZeroAnswers}
use Rattle.numbered.proofs.Refusals.{zero-answers}

pub heading-answers : (d w : List ℕ) → ZeroAnswers (line_in line_room heading_text d w)
heading-answers d w = zero-answers _

pub refused-line-answers : (number at : ℕ) (d w : List ℕ) → ZeroAnswers (line_in line_room (refused_text number at) d w)
refused-line-answers number at d w = zero-answers _

pub record-line-answers : (k v : ℕ) (t o : ℤ) (d w : List ℕ) → ZeroAnswers (record_line_in k (record_line k v t o) d w)
record-line-answers k v t o d w = zero-answers _
