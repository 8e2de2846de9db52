-- `problem::check_ends`: a call whose test fails ends the chain, and one that passes is left behind. Assumes nothing.
use Rattle.std.proofs.Common.{◌++◌, sym, ◌∙◌, arith, leb, [], ◌∷◌}
use Rattle.reason.specs.declared.Amiss.TheVariants.{CountOver}
use Rattle.problem.specs.Problems.{most_of}
use Rattle.problem.specs.Held.{end_test, place_tests, state_tests, stand_tests}
use Rattle.problem.proofs.Checks.{amiss-then, fine-then}
use Rattle.problem.proofs.check_ends.Goals as goal

pub returns-in_err-placed : goal.returns-in_err-placed
returns-in_err-placed c =
    let a = c.args in
    let b = a.b in
    let h = amiss-then (place_tests a.problem b.lo b.hi) (state_tests a.problem a.asked b ++ stand_tests b ++ (end_test (leb b.count (most_of a.problem)) (CountOver b.count (most_of a.problem)) ∷ [])) c.in_err-placed.field-0.0 (sym c.placed.ensures ∙ c.in_err-placed.was) in
    grind arith

pub returns-in_err-stated : goal.returns-in_err-stated
returns-in_err-stated c =
    let a = c.args in
    let b = a.b in
    let p0 = fine-then (place_tests a.problem b.lo b.hi) (state_tests a.problem a.asked b ++ stand_tests b ++ (end_test (leb b.count (most_of a.problem)) (CountOver b.count (most_of a.problem)) ∷ [])) c.in_ok-placed.field-0 (sym c.placed.ensures ∙ c.in_ok-placed.was) in
    let h = amiss-then (state_tests a.problem a.asked b) (stand_tests b ++ (end_test (leb b.count (most_of a.problem)) (CountOver b.count (most_of a.problem)) ∷ [])) c.in_err-stated.field-0.0 (sym c.stated.ensures ∙ c.in_err-stated.was) in
    grind arith

pub returns-in_err-stands : goal.returns-in_err-stands
returns-in_err-stands c =
    let a = c.args in
    let b = a.b in
    let p0 = fine-then (place_tests a.problem b.lo b.hi) (state_tests a.problem a.asked b ++ stand_tests b ++ (end_test (leb b.count (most_of a.problem)) (CountOver b.count (most_of a.problem)) ∷ [])) c.in_ok-placed.field-0 (sym c.placed.ensures ∙ c.in_ok-placed.was) in
    let p1 = fine-then (state_tests a.problem a.asked b) (stand_tests b ++ (end_test (leb b.count (most_of a.problem)) (CountOver b.count (most_of a.problem)) ∷ [])) c.in_ok-stated.field-0 (sym c.stated.ensures ∙ c.in_ok-stated.was) in
    let h = amiss-then (stand_tests b) (end_test (leb b.count (most_of a.problem)) (CountOver b.count (most_of a.problem)) ∷ []) c.in_err-stands.field-0.0 (sym c.stands.ensures ∙ c.in_err-stands.was) in
    grind arith
