-- What is a case, or holds one, in lent memory: judgements, ways round, grades, and a stopped run. A whole number that may be
-- below 0 is its 64 bits. Assumes nothing: these are definitions.
use Rattle.std.specs.Prelude.{ℕ, Bool, false, cond, ◌||◌, List, [], ◌∷◌, ltb, eqb, length, get_or, Float}
use Rattle.std.specs.Float.{nan}
use Rattle.field.specs.Bytes.{bits_of, signed_of}
use Rattle.vector.specs.declared.Vector.{Vector}
use Rattle.vector.specs.declared.State.{State}
use Rattle.iterator.specs.declared.Judgement.{Judgement}
use Rattle.iterator.specs.declared.Judgement.TheVariants.{Low, High, Under, Over}
use Rattle.iterator.specs.declared.Bracket.{Bracket}
use Rattle.iterator.specs.declared.Beginning.{Beginning}
use Rattle.iterator.specs.declared.Beginning.TheVariants.{Start, Stopped}
use Rattle.iterator.specs.Same.{judgement_number, carried_of}
use Rattle.lambert.specs.declared.Way.{Way}
use Rattle.lambert.specs.declared.Way.TheVariants.{Short, Long, Normal}
use Rattle.solve.specs.declared.Grade.{Grade}
use Rattle.solve.specs.declared.Grade.TheVariants.{Closed, Fair, Rough}
use Rattle.solve.specs.declared.Solution.{Solution}
use Rattle.lent.specs.Given.{vector_in}

-- ---- a judgement: 0 low and 1 high, with a time; 2 under; 3 over

unfoldable pub judgement_from : ℕ → Float → Judgement
judgement_from k t = cond (eqb k 0) (Low t) (cond (eqb k 1) (High t) (cond (eqb k 2) Under Over))

-- ---- a way round: short 0, long 1, by a normal 2

unfoldable pub way_from : ℕ → List Float → Way
way_from k normal = cond (eqb k 0) Short (cond (eqb k 1) Long (Normal (vector_in normal)))

-- how many numbers of a normal are asked for
unfoldable pub normal_size : ℕ → ℕ
normal_size k = cond (eqb k 2) 3 0

-- ---- a grade: closed 0, fair 1, rough 2

unfoldable pub grade_number : Grade → ℕ
grade_number Closed = 0
grade_number Fair = 1
grade_number Rough = 2

-- ---- an orbit that is found: the state, the time at n, err; n, the count, the turns, the grade

abbrev pub orbit_numbers : State → Solution → List Float
orbit_numbers s x = s.rx ∷ s.ry ∷ s.rz ∷ s.vx ∷ s.vy ∷ s.vz ∷ x.t ∷ x.err ∷ []

abbrev pub orbit_wholes : Solution → ℕ → List ℕ
orbit_wholes x turns = bits_of x.n ∷ x.count ∷ turns ∷ grade_number x.grade ∷ []

-- ---- a velocity that is found: it, the time at n, err; n, the count, the grade

abbrev pub velocity_numbers : Vector → Solution → List Float
velocity_numbers v x = v.x ∷ v.y ∷ v.z ∷ x.t ∷ x.err ∷ []

abbrev pub velocity_wholes : Solution → List ℕ
velocity_wholes x = bits_of x.n ∷ x.count ∷ grade_number x.grade ∷ []

-- ---- a stopped run: lo and its judgement, hi and its, the count; the times of the two, 0 for one that has none

abbrev pub stopped_numbers : Bracket → List Float
stopped_numbers b = carried_of b.below ∷ carried_of b.above ∷ []

abbrev pub stopped_wholes : Bracket → List ℕ
stopped_wholes b = bits_of b.lo ∷ judgement_number b.below ∷ bits_of b.hi ∷ judgement_number b.above ∷ b.count ∷ []

-- the same read
abbrev pub bracket_from : List ℕ → List Float → Bracket
bracket_from from times = record {
  lo = signed_of (get_or from 0 0);
  hi = signed_of (get_or from 2 0);
  below = judgement_from (get_or from 1 0) (get_or times 0 nan);
  above = judgement_from (get_or from 3 0) (get_or times 1 nan);
  count = get_or from 4 0;
}

-- no word at all begins at the grid's own ends
unfoldable pub beginning_from : List ℕ → List Float → Beginning
beginning_from from times = cond (ltb (length from) 1) Start (Stopped (bracket_from from times))

-- else there must be five words and two times
unfoldable pub run_short : List ℕ → List Float → Bool
run_short from times = cond (ltb (length from) 1) false (ltb (length from) 5 || ltb (length times) 2)

-- a judgement that is none of the four
unfoldable pub run_misjudged : List ℕ → Bool
run_misjudged from = ltb 3 (get_or from 1 0) || ltb 3 (get_or from 3 0)
