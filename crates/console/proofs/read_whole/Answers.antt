use Rattle.std.proofs.Common.{◌≡◌, ℕ, ◌+◌, List, ◌++◌, take, drop, sym, ap, subst, ◌∙◌, Option}
use Rattle.std.proofs.Math.Seq.{take-add}
use Rattle.std.specs.Io.KnownBytes.{Consumes}
use Rattle.std.proofs.KnownBytes.{Consumes-trans}
use Rattle.console.proofs.read_whole.Goals as goal

-- the buffer's front xs was read, and then n bytes more behind it, which leaves ys
read_on : (a b c : Option (List ℕ)) (xs ys : List ℕ) (f n : ℕ) → take f ys ≡ take f xs → Consumes a b (take f xs)
    → Consumes b c (take n (drop f ys)) → Consumes a c (take (f + n) ys)
read_on a b c xs ys f n front before more =
    subst (Consumes a c) (sym (take-add f n ys ∙ ap (λ l. l ++ take n (drop f ys)) front)) (Consumes-trans a b c _ _ before more)

pub loop-length-preserved : goal.loop-length-preserved
loop-length-preserved g c =
    let read = c.in-Ok.ensures in
    record {
      within = read.within;
      bytes = read_on _ _ _ c.loop-length.buf _ c.loop-length.length c.in-Ok.n read.front c.loop-length.invariant.bytes read.bytes;
    }
