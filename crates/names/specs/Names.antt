-- What a person reads for the number that a test looks at. Assumes nothing: these are definitions.
use Rattle.std.specs.Prelude.{ℕ, List, [], ◌∷◌}
use Rattle.text.specs.Text.{ascii}
use Rattle.table.specs.declared.Name.{Name}
use Rattle.table.specs.declared.Name.TheVariants as N
use Rattle.table.specs.declared.Part.{Part}
use Rattle.table.specs.declared.Part.TheVariants as Pa

-- the table: a number by its name, a vector by its letter, as at the desk. `a` and `p` stand twice, and no routine has both.
unfoldable pub word_text : Name → List ℕ
-- inputs
word_text N.Mu = ascii "mu"
word_text N.Position = ascii "r"
word_text N.Velocity = ascii "v"
word_text N.First = ascii "a"
word_text N.Second = ascii "b"
word_text N.Normal = ascii "n"
word_text N.Time = ascii "t"
word_text N.Sin = ascii "sin"
word_text N.Cos = ascii "cos"
word_text N.Lo = ascii "lo"
word_text N.Hi = ascii "hi"
word_text N.Active = ascii "a"
word_text N.Passive = ascii "p"
word_text N.Elevation = ascii "elevation"
word_text N.Horizontal = ascii "h"
word_text N.Vertical = ascii "u"
word_text N.Radius = ascii "radius"
word_text N.Closed = ascii "closed"
word_text N.Fair = ascii "fair"
-- derived numbers
word_text N.Cross = ascii "|u1xu2|"
word_text N.Versine = ascii "1-cos"
word_text N.Excess = ascii "cos2+sin2-1"
word_text N.C1 = ascii "c1"
word_text N.C2 = ascii "c2"
word_text N.Ratio = ascii "r1/r2"
word_text N.Cothalf = ascii "sin/(1-cos)"
word_text N.Cot = ascii "cot"
word_text N.P = ascii "p"
word_text N.E = ascii "e"
-- numbers of a trial
word_text N.Den = ascii "den"
word_text N.W = ascii "W"
word_text N.Radicand = ascii "radicand"
word_text N.X = ascii "x"
word_text N.Xi = ascii "xi"
word_text N.TrialTime = ascii "time"

-- the words of the table in a line, each once
abbrev pub word_line : List ℕ
word_line = ascii "mu r v a b n t sin cos lo hi p elevation h u radius closed fair |u1xu2| 1-cos cos2+sin2-1 c1 c2 r1/r2 sin/(1-cos) cot e den W radicand x xi time"

-- a vector's component behind its letter, its length between bars; what is no vector as it stands
abbrev pub name_pieces : Name → Part → List (List ℕ)
name_pieces n Pa.X = word_text n ∷ ascii "x" ∷ []
name_pieces n Pa.Y = word_text n ∷ ascii "y" ∷ []
name_pieces n Pa.Z = word_text n ∷ ascii "z" ∷ []
name_pieces n Pa.Length = ascii "|" ∷ word_text n ∷ ascii "|" ∷ []
name_pieces n Pa.Whole = word_text n ∷ []
