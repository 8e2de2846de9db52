-- A bracket to go on from: its ends on the grid and in order, judged afresh, and right for their place (T-14, row 6).
-- Assumes nothing: these are definitions.
use Rattle.std.specs.Prelude.{Bool, cond, ◌&&◌, List, [], ◌∷◌, ◌++◌, leb, ℤ, Float, Result, Ok, Err}
use Rattle.std.specs.Int.Signed.{lt_z, le_z}
use Rattle.iterator.specs.Same.{same_as}
use Rattle.iterator.specs.Single.{is_below, is_above}
use Rattle.iterator.specs.declared.Bracket.{Bracket}
use Rattle.reason.specs.declared.Amiss.{Amiss}
use Rattle.reason.specs.declared.Amiss.TheVariants.{LoOffGrid, HiOffGrid, LoNotUnderHi, LoMisjudged, HiMisjudged, LoNotBelow, HiNotAbove, CountOver}
use Rattle.problem.specs.Problems.{start_of, held_of, most_of}
use Rattle.problem.specs.declared.Problem.{Problem}

unfoldable pub on_grid : Problem → ℤ → Bool
on_grid problem n = le_z (start_of problem).lo n && le_z n (start_of problem).hi

-- a test, and what is amiss where it fails
pub record EndTest : Type 0 where
  pub met : Bool
  pub fault : Amiss

abbrev pub end_test : Bool → Amiss → EndTest
end_test met fault = record { met = met; fault = fault }

-- lo on the grid, hi on the grid, lo < hi
abbrev pub place_tests : Problem → ℤ → ℤ → List EndTest
place_tests problem lo hi =
    end_test (on_grid problem lo) (LoOffGrid lo) ∷ end_test (on_grid problem hi) (HiOffGrid hi) ∷ end_test (lt_z lo hi) (LoNotUnderHi lo) ∷ []

-- each end judged as stated, to the bit; a grid's own end is not evaluated
abbrev pub state_tests : Problem → Float → Bracket → List EndTest
state_tests problem asked b =
    end_test (same_as (held_of problem asked b.lo) b.below) (LoMisjudged b.lo (held_of problem asked b.lo))
    ∷ end_test (same_as (held_of problem asked b.hi) b.above) (HiMisjudged b.hi (held_of problem asked b.hi)) ∷ []

-- lo low or under, hi high or over
abbrev pub stand_tests : Bracket → List EndTest
stand_tests b = end_test (is_below b.below) (LoNotBelow b.lo) ∷ end_test (is_above b.above) (HiNotAbove b.hi) ∷ []

-- all of them, in this order, and a count of at most 2b
abbrev pub end_tests : Problem → Float → Bracket → List EndTest
end_tests problem asked b =
    place_tests problem b.lo b.hi ++ state_tests problem asked b ++ stand_tests b
    ++ (end_test (leb b.count (most_of problem)) (CountOver b.count (most_of problem)) ∷ [])

-- one after the other: the first that fails is kept
unfoldable pub tested_by : Result Unit Amiss → EndTest → Result Unit Amiss
tested_by (Ok u) e = cond e.met (Ok tt) (Err e.fault)
tested_by (Err a) e = Err a

infixl 40 ◌▸◌
abbrev pub ◌▸◌ : Result Unit Amiss → List EndTest → Result Unit Amiss
c ▸ [] = c
c ▸ (e ∷ es) = tested_by c e ▸ es

abbrev pub checked_of : Problem → Float → Bracket → Result Unit Amiss
checked_of problem asked b = Ok tt ▸ end_tests problem asked b
