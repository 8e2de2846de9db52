-- A record is shown as its comment, which is not read back, and its line, which is. Assumes nothing.
use Rattle.std.specs.Prelude.{Ok}
use Prim.Native.Nat.{ℕ}
use mathlib.Core.Path.{◌≡◌, refl}
use mathlib.Core.List.{List, [], ◌∷◌, ◌++◌, append_assoc, append-nil}
use lib.IntN.{ℤ}
use Rattle.text.specs.Text.{ascii, signed_text}
use Rattle.text.specs.Pieces.{concat}
use Rattle.text.proofs.Lays.{concat-append}
use Rattle.words.specs.Words.{starts_with}
use Rattle.session.specs.declared.record.Record.{Record}
use Rattle.script.specs.Script.{front_pieces, back_pieces, record_pieces, offset_pieces}
use Rattle.entry.specs.declared.line.Entry.TheVariants.{Nothing}
use Rattle.entry.specs.Entries.{entry_of}
use Rattle.retold.specs.Said.{comment_text, line_text, offset_text}

pub two-lines : (o : ℤ) (r : Record) → concat (record_pieces o r) ≡ comment_text o r ++ (10 ∷ (line_text r ++ (10 ∷ [])))
unfolding concat front_pieces back_pieces
two-lines o r = simp (concat-append, append_assoc, append-nil)

pub offset-lines : (z : ℤ) → concat (offset_pieces z) ≡ (ascii "# offset " ++ (signed_text z ++ ascii " minutes")) ++ (10 ∷ (offset_text z ++ (10 ∷ [])))
unfolding concat offset_pieces
offset-lines z = simp (append_assoc, append-nil)

-- a line that starts with `#` says nothing
pub comment-skipped : (l : List ℕ) → entry_of (35 ∷ l) ≡ Ok Nothing
unfolding entry_of starts_with
comment-skipped [] = refl
comment-skipped (b ∷ l) = refl
