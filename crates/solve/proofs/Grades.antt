-- What a solve finds is graded by 01's fractions of the size of time asked for, from wherever its trials began. Assumes nothing.
use Rattle.std.specs.Prelude.{Err, Ok, Result}
use Prim.Native.Nat.{ℕ}
use mathlib.Core.Path.{◌≡◌, refl}
use mathlib.Core.Bool.{Bool, true, false, cond}
use lib.Ieee.{Float}
use Rattle.real.specs.F64.{size_of}
use Rattle.vector.specs.declared.Vector.{Vector}
use Rattle.vector.specs.declared.State.{State}
use Rattle.table.specs.Tests.{Entry, first_failing}
use Rattle.iterator.specs.Run.{more}
use Rattle.iterator.specs.declared.Judgement.{Judgement}
use Rattle.iterator.specs.declared.Judgement.TheVariants.{Low, High, Under, Over}
use Rattle.iterator.specs.declared.Bracket.{Bracket}
use Rattle.iterator.specs.declared.Beginning.{Beginning}
use Rattle.kepler.specs.declared.Motion.{Motion}
use Rattle.kepler.specs.Kepler.{turned_of, arrival_of}
use Rattle.lambert.specs.declared.Way.{Way}
use Rattle.lambert.specs.declared.Transfer.{Transfer}
use Rattle.lambert.specs.Lambert.{transfer_of, velocity_at, result_row}
use Rattle.solve.specs.Ends.{motion_for, turns_for, kepler_ended, lambert_ended}
use Rattle.solve.specs.Answers.{Advanced, Transferred, standard_fractions, grade_of, outcome_by, outcome_at, concluded_of, advanced_at, advanced_as, advanced_end, advance_to, transferred_at, transferred_as, transferred_end, transfer_velocity_to}
use Rattle.trials.specs.Ended.{Ended}
use Rattle.trials.specs.declared.Ended.TheVariants as E
use Rattle.solve.specs.declared.Solution.{Solution}
use Rattle.solve.specs.declared.Outcome.{Outcome}
use Rattle.solve.specs.declared.Outcome.TheVariants as O
use Rattle.solve.specs.declared.Advanced.TheVariants as Ad
use Rattle.solve.specs.declared.Transferred.TheVariants as Tr

abbrev pub Own : Float → Solution → Type 0
Own size x = x.grade ≡ grade_of standard_fractions size x.err

-- of what trials come to, and of the answers
abbrev OwnOutcome : Float → Outcome → Type 0
OwnOutcome size (O.Met x) = Own size x
OwnOutcome size O.TooLong = Prim.Unit
OwnOutcome size O.TooShort = Prim.Unit
OwnOutcome size (O.NotFinished b) = Prim.Unit

abbrev pub OwnAdvanced : Float → Advanced → Type 0
OwnAdvanced size (Ad.Found s x w) = Own size x
OwnAdvanced size Ad.TooLong = Prim.Unit
OwnAdvanced size (Ad.NotFinished b) = Prim.Unit
OwnAdvanced size (Ad.Refused n) = Prim.Unit

abbrev pub OwnTransferred : Float → Transferred → Type 0
OwnTransferred size (Tr.Found v x) = Own size x
OwnTransferred size Tr.TooLong = Prim.Unit
OwnTransferred size Tr.TooShort = Prim.Unit
OwnTransferred size (Tr.NotFinished b) = Prim.Unit
OwnTransferred size (Tr.Refused n) = Prim.Unit

ending-own : (size asked : Float) (s : Bracket) (a b : Judgement) → OwnOutcome size (outcome_by size asked s a b)
unfolding outcome_by
ending-own size asked s (Low t) (High u) = refl
ending-own size asked s (Low t) (Low u) = tt
ending-own size asked s (Low t) Under = tt
ending-own size asked s (Low t) Over = tt
ending-own size asked s (High t) b = tt
ending-own size asked s Under b = tt
ending-own size asked s Over b = tt

concluded-own : (size asked : Float) (s : Bracket) → OwnOutcome size (concluded_of size asked s)
unfolding concluded_of
concluded-own size asked s = go (more s)
  where
    go : (t : Bool) → OwnOutcome size (cond t (O.NotFinished s) (outcome_at size asked s))
    go true = tt
    go false = ending-own size asked s s.below s.above

found-own : (t size : Float) (w : ℕ) (x : Solution) (r : Result State Entry) → Own size x → OwnAdvanced size (advanced_at t w x r)
unfolding advanced_at
found-own t size w x (Ok s) e = e
found-own t size w x (Err f) e = tt

arrived-own : (m : Motion) (from : State) (t size : Float) (w : ℕ) (o : Outcome) → OwnOutcome size o → OwnAdvanced size (advanced_as m from t w o)
unfolding advanced_as
arrived-own m from t size w (O.Met x) e = found-own t size w x (arrival_of m from x.n) e
arrived-own m from t size w O.TooLong e = tt
arrived-own m from t size w O.TooShort e = tt
arrived-own m from t size w (O.NotFinished b) e = tt

moved-own : (d : Transfer) (size : Float) (o : Outcome) → OwnOutcome size o → OwnTransferred size (transferred_as d o)
unfolding transferred_as transferred_at
moved-own d size (O.Met x) e = go (first_failing (result_row (velocity_at d x.n)))
  where
    go : (p : Result Unit Entry) → OwnTransferred size (transferred_at p (velocity_at d x.n) x)
    go (Ok tt) = e
    go (Err f) = tt
moved-own d size O.TooLong e = tt
moved-own d size O.TooShort e = tt
moved-own d size (O.NotFinished b) e = tt

pub advance-own : (mu : Float) (s : State) (t : Float) (limit : ℕ) (g : Beginning) → OwnAdvanced (size_of t) (advance_to mu s t limit g)
unfolding advanced_end
advance-own mu s t limit g = go (kepler_ended mu s t limit g)
  where
    go : (e : Ended) → OwnAdvanced (size_of t) (advanced_end e (motion_for mu s t) (turned_of t s) t (size_of t))
    go (E.Refused f) = tt
    go (E.Wrong a) = tt
    go (E.At b) = arrived-own (motion_for mu s t) (turned_of t s) t (size_of t) (turns_for mu s t).turns (concluded_of (size_of t) (turns_for mu s t).rest b) (concluded-own (size_of t) (turns_for mu s t).rest b)

pub transfer-own : (mu : Float) (first second : Vector) (way : Way) (t : Float) (limit : ℕ) (g : Beginning) → OwnTransferred t (transfer_velocity_to mu first second way t limit g)
unfolding transferred_end
transfer-own mu first second way t limit g = go (lambert_ended mu first second way t limit g)
  where
    go : (e : Ended) → OwnTransferred t (transferred_end e (transfer_of mu first second way) t)
    go (E.Refused f) = tt
    go (E.Wrong a) = tt
    go (E.At b) = moved-own (transfer_of mu first second way) t (concluded_of t t b) (concluded-own t t b)
