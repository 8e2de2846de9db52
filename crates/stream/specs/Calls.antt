-- The calls of a user of the reader, as the contracts allow them. Assumes nothing: these are definitions.
use Rattle.std.specs.Prelude.{ℕ, ◌≡◌, List, [], ◌∷◌, ◌++◌}
use Rattle.session.specs.declared.record.Record.{Record}
use Rattle.session.specs.declared.Place.{Place}
use Rattle.session.specs.declared.Reading.{Reading}
use Rattle.session.specs.declared.Reading.TheVariants as A
use Rattle.stream.specs.declared.Standing.{Standing}
use Rattle.stream.specs.declared.Standing.TheVariants.{Open, Refused, Ended}
use Rattle.stream.specs.declared.Step.TheVariants as S
use Rattle.stream.specs.Stream.{Ending, ended, refused, step_of, room_of, finish_of}

-- one part, step after step until there is no more: from a reader, a room and a place to what is read, the reader and the room
pub data Calls : Standing → List ℕ → List ℕ → ℕ → List Reading → Standing → List ℕ → Type 0 where
  last : {x : Standing} {d p : List ℕ} {from : ℕ} {y : Standing} → S.Stopped y ≡ step_of x d p from → Calls x d p from [] y (room_of x d p from)
  next : {x : Standing} {d p : List ℕ} {from : ℕ} {r : Record} {q : Place} {at : ℕ} {xs : List Reading} {z : Standing} {f : List ℕ}
      → S.Record r q at ≡ step_of x d p from → Calls (Open q 0) (room_of x d p from) p at xs z f → Calls x d p from (A.Record r q ∷ xs) z f
  sets : {x : Standing} {d p : List ℕ} {from : ℕ} {q : Place} {at : ℕ} {xs : List Reading} {z : Standing} {f : List ℕ}
      → S.Offset q at ≡ step_of x d p from → Calls (Open q 0) (room_of x d p from) p at xs z f → Calls x d p from (A.Offset q ∷ xs) z f

-- how a reader that was told the end has ended
abbrev pub end_in : Standing → Ending
end_in (Open p k) = ended
end_in (Refused n at) = refused n at
end_in Ended = ended

-- all parts, and an end call
pub data Session : Standing → List ℕ → List (List ℕ) → List Reading → Ending → Type 0 where
  done : {x : Standing} {d : List ℕ} → Session x d [] [] (end_in (finish_of x))
  more : {x : Standing} {d p : List ℕ} {xs : List Reading} {y : Standing} {e : List ℕ} {ps : List (List ℕ)} {ys : List Reading} {w : Ending}
      → Calls x d p 0 xs y e → Session y e ps ys w → Session x d (p ∷ ps) (xs ++ ys) w
