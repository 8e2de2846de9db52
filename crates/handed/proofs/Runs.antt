-- A stopped run that is handed out and handed in again is that run, whatever stands behind it in the arrays. Assumes nothing.
use Prim.Native.Nat.{ℕ}
use mathlib.Core.Path.{◌≡◌, refl}
use mathlib.Core.Bool.{false}
use mathlib.Core.List.{List, ◌∷◌, ◌++◌}
use lib.ListN.{length}
use lib.Ieee.{Float}
use native.Mathlib.Omega.{arith}
use borrow.Author.Tests.{le-ltb}
use mir.Syntax.{w64}
use mir.Val.{SFits}
use mir.Facts.{to_z-of_z}
use Rattle.field.specs.Bytes.{bits_of}
use Rattle.iterator.specs.declared.Judgement.{Judgement}
use Rattle.iterator.specs.declared.Judgement.TheVariants.{Low, High, Under, Over}
use Rattle.iterator.specs.declared.Bracket.{Bracket}
use Rattle.iterator.specs.declared.Beginning.TheVariants.{Stopped}
use Rattle.iterator.specs.Same.{judgement_number, carried_of}
use Rattle.cases.specs.Cases.{judgement_from, stopped_numbers, stopped_wholes, beginning_from, run_short, run_misjudged}

pub judgement-back : (j : Judgement) → judgement_from (judgement_number j) (carried_of j) ≡ j
unfolding judgement_from
judgement-back (Low t) = refl
judgement-back (High t) = refl
judgement-back Under = refl
judgement-back Over = refl

pub run-back : (b : Bracket) (ws : List ℕ) (ts : List Float) → SFits w64 b.lo → SFits w64 b.hi → beginning_from (stopped_wholes b ++ ws) (stopped_numbers b ++ ts) ≡ Stopped b
unfolding beginning_from
run-back b ws ts l h =
    rw (le-ltb (length (stopped_wholes b ++ ws)) 1 (omega arith), to_z-of_z {w = w64} {z = b.lo} l, to_z-of_z {w = w64} {z = b.hi} h, judgement-back b.below, judgement-back b.above)

pub run-long-enough : (b : Bracket) (ws : List ℕ) (ts : List Float) → run_short (stopped_wholes b ++ ws) (stopped_numbers b ++ ts) ≡ false
unfolding run_short
run-long-enough b ws ts =
    rw (le-ltb (length (stopped_wholes b ++ ws)) 1 (omega arith), le-ltb (length (stopped_wholes b ++ ws)) 5 (omega arith), le-ltb (length (stopped_numbers b ++ ts)) 2 (omega arith))

both-judged : (lo hi count : ℕ) (j k : Judgement) (ws : List ℕ) → run_misjudged (lo ∷ judgement_number j ∷ hi ∷ judgement_number k ∷ count ∷ ws) ≡ false
unfolding run_misjudged
both-judged lo hi count (Low t) (Low u) ws = refl
both-judged lo hi count (Low t) (High u) ws = refl
both-judged lo hi count (Low t) Under ws = refl
both-judged lo hi count (Low t) Over ws = refl
both-judged lo hi count (High t) (Low u) ws = refl
both-judged lo hi count (High t) (High u) ws = refl
both-judged lo hi count (High t) Under ws = refl
both-judged lo hi count (High t) Over ws = refl
both-judged lo hi count Under (Low u) ws = refl
both-judged lo hi count Under (High u) ws = refl
both-judged lo hi count Under Under ws = refl
both-judged lo hi count Under Over ws = refl
both-judged lo hi count Over (Low u) ws = refl
both-judged lo hi count Over (High u) ws = refl
both-judged lo hi count Over Under ws = refl
both-judged lo hi count Over Over ws = refl

pub run-judged : (b : Bracket) (ws : List ℕ) → run_misjudged (stopped_wholes b ++ ws) ≡ false
run-judged b ws = both-judged (bits_of b.lo) (bits_of b.hi) b.count b.below b.above ws
