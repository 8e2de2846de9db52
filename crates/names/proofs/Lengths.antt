-- A name has at most 13 bytes. Assumes nothing.
use Prim.Native.Nat.{◌≤◌}
use native.Mathlib.Omega.{arith}
use lib.ListN.{length, length-append}
use lib.Dec.{lit≤}
use Rattle.text.specs.Pieces.{concat}
use Rattle.table.specs.declared.Name.{Name}
use Rattle.table.specs.declared.Name.TheVariants as N
use Rattle.table.specs.declared.Part.{Part}
use Rattle.table.specs.declared.Part.TheVariants as Pa
use Rattle.names.specs.Names.{word_text, name_pieces}

word-short : (n : Name) → length (word_text n) ≤ 11
unfolding word_text
word-short N.Mu = lit≤ tt
word-short N.Position = lit≤ tt
word-short N.Velocity = lit≤ tt
word-short N.First = lit≤ tt
word-short N.Second = lit≤ tt
word-short N.Normal = lit≤ tt
word-short N.Time = lit≤ tt
word-short N.Sin = lit≤ tt
word-short N.Cos = lit≤ tt
word-short N.Lo = lit≤ tt
word-short N.Hi = lit≤ tt
word-short N.Active = lit≤ tt
word-short N.Passive = lit≤ tt
word-short N.Elevation = lit≤ tt
word-short N.Horizontal = lit≤ tt
word-short N.Vertical = lit≤ tt
word-short N.Radius = lit≤ tt
word-short N.Closed = lit≤ tt
word-short N.Fair = lit≤ tt
word-short N.Cross = lit≤ tt
word-short N.Versine = lit≤ tt
word-short N.Excess = lit≤ tt
word-short N.C1 = lit≤ tt
word-short N.C2 = lit≤ tt
word-short N.Ratio = lit≤ tt
word-short N.Cothalf = lit≤ tt
word-short N.Cot = lit≤ tt
word-short N.P = lit≤ tt
word-short N.E = lit≤ tt
word-short N.Den = lit≤ tt
word-short N.W = lit≤ tt
word-short N.Radicand = lit≤ tt
word-short N.X = lit≤ tt
word-short N.Xi = lit≤ tt
word-short N.TrialTime = lit≤ tt

pub name-short : (n : Name) (p : Part) → length (concat (name_pieces n p)) ≤ 13
unfolding concat
name-short n Pa.X = simp length-append (omega (arith, word-short n))
name-short n Pa.Y = simp length-append (omega (arith, word-short n))
name-short n Pa.Z = simp length-append (omega (arith, word-short n))
name-short n Pa.Length = simp length-append (omega (arith, word-short n))
name-short n Pa.Whole = simp length-append (omega (arith, word-short n))
