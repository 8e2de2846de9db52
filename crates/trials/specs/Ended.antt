-- Where the trials begin, at the grid's own ends or where a run stopped (T-14), and where they end, at neighbours or at a limit on
-- the count. Assumes nothing: these are definitions.
use Rattle.refusal.specs.declared.Refusal.{Refusal}
use Rattle.table.specs.declared.Entry.{Entry as EntryOf}
use Rattle.reason.specs.declared.Amiss.{Amiss}
use Rattle.std.specs.Prelude.{ℕ, Float, Err, Ok, Result}
use Rattle.iterator.specs.declared.Bracket.{Bracket}
use Rattle.iterator.specs.declared.Beginning.{Beginning}
use Rattle.iterator.specs.declared.Beginning.TheVariants.{Start, Stopped}
use Rattle.problem.specs.Problems.{start_of, stopped_of}
use Rattle.problem.specs.Held.{checked_of}
use Rattle.problem.specs.declared.Problem.{Problem}
use Rattle.trials.specs.declared.Ended.{Ended as EndedOf}
use Rattle.trials.specs.declared.Ended.TheVariants as E

-- whose refusal is a case of `Refusal`; EndedOf R has a refusal of another type, as any number
abbrev pub Ended : Type 0
Ended = EndedOf Refusal

-- a stopped bracket is taken as it stands if trials can go on from it
unfoldable pub begun_by : Result Unit Amiss → Bracket → Result Bracket Amiss
begun_by (Ok tt) b = Ok b
begun_by (Err a) b = Err a

unfoldable pub begun_of : Problem → Float → Beginning → Result Bracket Amiss
begun_of problem asked Start = Ok (start_of problem)
begun_of problem asked (Stopped b) = begun_by (checked_of problem asked b) b

-- the tests ahead, row 6 of a continuation, the tests behind it (Kepler's 19), then the trials from where they begin
unfoldable pub ended_from : {R : Type 0} → Result Unit (EntryOf R) → Result Bracket Amiss → Result Unit (EntryOf R) → Problem → Float → ℕ → EndedOf R
ended_from (Err f) b behind problem asked limit = E.Refused f
ended_from (Ok tt) (Err a) behind problem asked limit = E.Wrong a
ended_from (Ok tt) (Ok s) (Err f) problem asked limit = E.Refused f
ended_from (Ok u) (Ok s) (Ok tt) problem asked limit = E.At (stopped_of problem asked limit s)
