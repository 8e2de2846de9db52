-- Any calls that the contracts allow read the whole. Assumes nothing.
use Rattle.refusal.specs.declared.Refusal.{Refusal}
use Rattle.refusal.specs.Refusals.{number_of}
use Rattle.stream.proofs.Cut.{cut_number}
use Prim.Native.Nat.{ℕ, zero, suc, ◌+◌, ◌-◌, ◌≤◌, ◌<◌, zero-le}
use native.Mathlib.Omega.{arith}
use mathlib.Core.Path.{◌≡◌, refl, sym, ap, ◌∙◌}
use mathlib.Core.List.{List, [], ◌∷◌, ◌++◌, append_assoc}
use mathlib.Core.Bool.{Bool, true, false, cond, not}
use lib.ListN.{length, take, drop, length-append, length-drop}
use lib.Seq.{drop-drop, take_at, length-take-le}
use lib.Dec.{ltb, eqb}
use borrow.Author.Tests.{lt-ltb, le-ltb, ltb-false, ne_eqb, eqb-true}
use Rattle.facts.proofs.Lists.{take-most}
use Rattle.text.specs.Text.{Stands}
use Rattle.text.proofs.Stand.{same_size}
use Rattle.text.specs.Pieces.{concat}
use Rattle.session.specs.declared.record.Record.{Record}
use Rattle.session.specs.declared.record.Decoded.{Decoded}
use Rattle.session.specs.declared.record.Decoded.TheVariants as D
use Rattle.session.specs.declared.Place.{Place}
use Rattle.session.specs.declared.Reading.{Reading}
use Rattle.session.specs.declared.Reading.TheVariants as A
use Rattle.session.specs.Limits.{offset_allowed}
use Rattle.session.specs.Read.{start}
use Rattle.stream.specs.declared.Standing.{Standing}
use Rattle.stream.specs.declared.Standing.TheVariants.{Open, Refused, Ended}
use Rattle.stream.specs.declared.Step.{Step}
use Rattle.stream.specs.declared.Step.TheVariants as S
use Rattle.stream.specs.Stream.{Ending, ended, refused, Run, stop, joined, whole_run, Reader, reading, stopped, Move, got, set, none, most_bytes, found_at, seen, move_for, move_of, end_of, standing_of, is_sound, step_in, put, room_on, step_on, step_open, room_open, step_of, room_of, finish_of}
use Rattle.stream.specs.Calls.{Calls, last, next, sets, end_in, Session, done, more}
use Rattle.stream.proofs.Parts.{left_of, Kept, taken, Goes, Stays, After, move-law, end-law, joins, all_seen}
use Rattle.stream.proofs.Opens.{Sound, sound-by, sound, is_sound_lem, is-over, is-passed, is-empty}

-- the reader that code has
abbrev pub reader_of : Standing → List ℕ → Reader
reader_of (Open p k) d = reading p (take k d)
reader_of (Refused n at) d = stopped (refused n at)
reader_of Ended d = stopped ended

-- a state that the reader gave, with a room of 62 bytes
abbrev pub Stood : Standing → List ℕ → Type 0
Stood (Open p k) d = Sound p k d
Stood (Refused n at) d = Unit {0}
Stood Ended d = Unit {0}

pub record Ready (x : Standing) (d : List ℕ) : Type 0 where
  pub room : 62 ≤ length d
  pub stood : Stood x d

kept_by : (x : Standing) (d : List ℕ) → Stood x d → Kept (reader_of x d)
kept_by (Open p k) d s = (s.unfinished, s.allowed)
kept_by (Refused n at) d s = tt
kept_by Ended d s = tt

-- what waits is what the room keeps
abbrev Holds : Move → List ℕ → Type 0
Holds (got r q n) e = Unit {0}
Holds (set q n) e = Unit {0}
Holds (none (reading q l)) e = take (length l) e ≡ l
Holds (none (stopped w)) e = Unit {0}

module _ (p : Place) (k : ℕ) (d part : List ℕ) (from : ℕ) (s : Sound p k d) (h : 62 ≤ length d) (c : p.at + k + length (drop from part) ≤ most_bytes) where
  size : length (take k d) ≡ k
  size = length-take-le k d (omega (arith, s.fits, h))

  counted : ltb most_bytes (p.at + k + (length part - from)) ≡ false
  counted = le-ltb most_bytes (p.at + k + (length part - from)) (omega (arith, c, length-drop from part))

  counted-too : ltb most_bytes (p.at + length (take k d) + length (drop from part)) ≡ false
  counted-too = le-ltb most_bytes (p.at + length (take k d) + length (drop from part)) (omega (arith, c, size))

  step_open_lem : step_open p k d part from ≡ step_in from (move_of (reading p (take k d)) (drop from part))
  step_open_lem =
      sym (is-passed p k d part from counted h (is_sound_lem p k d s)).0
      ∙ sym (ap (λ (b : Bool). step_in from (cond b (none (stopped (refused 15 p.at))) (move_for (found_at p (seen (take k d) (drop from part))) p (take k d) (drop from part)))) counted-too)

  room_open_lem : room_open p k d part from ≡ room_on k d part from
  room_open_lem = sym (is-passed p k d part from counted h (is_sound_lem p k d s)).1

  stands : Stands d k (take (62 - k) (drop from part)) (room_on k d part from) (k + length (take (62 - k) (drop from part)))
  stands = record { next = refl; within = omega (arith, take-most (62 - k) (drop from part), s.fits, h); whole = refl }

  room-size : length (room_open p k d part from) ≡ length d
  room-size = ap length room_open_lem ∙ same_size stands

  waits : found_at p (seen (take k d) (drop from part)) ≡ D.Refused Refusal.CutShort → take (length (take k d ++ drop from part)) (room_on k d part from) ≡ take k d ++ drop from part
  waits e =
      let a : take (62 - k) (drop from part) ≡ drop from part =
      ap (λ (j : ℕ). take (62 - j) (drop from part)) (sym size) ∙ all_seen p (take k d) (drop from part) (s.unfinished, s.allowed) e in
      ap (λ (l : List ℕ). take (length (take k d ++ drop from part)) (put k l d)) a
      ∙ ap (take (length (take k d ++ drop from part))) (sym (append_assoc (take k d) (drop from part) (drop (k + length (drop from part)) d)))
      ∙ take_at (take k d ++ drop from part) (drop (k + length (drop from part)) d) (length (take k d ++ drop from part)) refl

  by-eleven : (n : Refusal) (b : Bool) → eqb (number_of n) 11 ≡ b → found_at p (seen (take k d) (drop from part)) ≡ D.Refused n
      → Holds (none (cond b (reading p (take k d ++ drop from part)) (stopped (refused (number_of n) p.at)))) (room_on k d part from)
  by-eleven n true i e = waits (e ∙ ap D.Refused (cut_number n (eqb-true (number_of n) 11 i)))
  by-eleven n false i e = tt

  by-decoded : (z : Decoded) → found_at p (seen (take k d) (drop from part)) ≡ z → Holds (move_for z p (take k d) (drop from part)) (room_on k d part from)
  by-decoded (D.Whole r n) e = tt
  by-decoded (D.Offset z) e = tt
  by-decoded (D.Refused n) e = by-eleven n (eqb (number_of n) 11) refl e

  holds-open : Holds (move_of (reading p (take k d)) (drop from part)) (room_open p k d part from)
  holds-open =
      rw (room_open_lem, counted-too) (by-decoded (found_at p (seen (take k d) (drop from part))) refl)

-- one step of code is one move
record Same (x : Standing) (d part : List ℕ) (from : ℕ) : Type 0 where
  move : Move
  after : After (reader_of x d) (drop from part) move
  step : step_of x d part from ≡ step_in from move
  holds : Holds move (room_of x d part from)
  size : length (room_of x d part from) ≡ length d

same : (x : Standing) (d part : List ℕ) (from : ℕ) → Ready x d → taken (reader_of x d) + length (drop from part) ≤ most_bytes → Same x d part from
same (Open p k) d part from y h =
    let s = y.stood in
    let c : p.at + k + length (drop from part) ≤ most_bytes = omega (arith, h, length-take-le k d (omega (arith, s.fits, y.room))) in
    record {
      move = move_of (reading p (take k d)) (drop from part);
      after = move-law (reading p (take k d)) (drop from part) (s.unfinished, s.allowed) h;
      step = step_open_lem p k d part from s y.room c;
      holds = holds-open p k d part from s y.room c;
      size = room-size p k d part from s y.room c;
    }
same (Refused n at) d part from y h =
    record { move = none (stopped (refused n at)); after = record { kept = tt; count = zero-le; same = λ t. refl }; step = refl; holds = tt; size = refl }
same Ended d part from y h =
    record { move = none (stopped ended); after = record { kept = tt; count = zero-le; same = λ t. refl }; step = refl; holds = tt; size = refl }

-- no more from this part
abbrev Waits : Reader → List ℕ → Standing → List ℕ → Type 0
Waits x rest y e = Stays x rest [] (reader_of y e) × Stood y e

by-reader : (x z : Reader) (rest : List ℕ) (e : List ℕ) → Stays x rest [] z → Holds (none z) e → 62 ≤ length e → Waits x rest (standing_of z) e
by-reader x (reading q l) rest e a h s =
    let u : found_at q (take (length l) e) ≡ D.Refused Refusal.CutShort = ap (found_at q) h ∙ a.kept.0 in (
      record {
        kept = (u, a.kept.1);
        count = omega (arith, a.count, ap length h);
        same = λ t. a.same t ∙ ap (λ (j : List ℕ). left_of (reading q j) t) (sym h);
      },
      sound-by q (length l) e s u a.kept.1,
    )
by-reader x (stopped ended) rest e a h s = (a, tt)
by-reader x (stopped (refused n at)) rest e a h s = (a, tt)

stop_by_lem : (x : Reader) (rest e : List ℕ) (from : ℕ) (m : Move) (y : Standing) → After x rest m → Holds m e → 62 ≤ length e → S.Stopped y ≡ step_in from m → Waits x rest y e
stop_by_lem x rest e from (got r q n) y a h s w = let z : ◌≡◌ {A = ℕ} 0 1 = cc in let v : ⊥ = omega arith in absurd v
stop_by_lem x rest e from (set q n) y a h s w = let z : ◌≡◌ {A = ℕ} 0 1 = cc in let v : ⊥ = omega arith in absurd v
stop_by_lem x rest e from (none z) y a h s w = let i : y ≡ standing_of z = cc in rw i (by-reader x z rest e a h s)

-- a record, or the offset's record
record Went (x : Reader) (rest : List ℕ) (b : Reading) (q : Place) (from at : ℕ) : Type 0 where
  used : ℕ
  goes : Goes x rest b used (reading q [])
  place : at ≡ from + used

record-by : (x : Reader) (rest : List ℕ) (from : ℕ) (m : Move) (r : Record) (q : Place) (at : ℕ) → After x rest m → S.Record r q at ≡ step_in from m → Went x rest (A.Record r q) q from at
record-by x rest from (got r' q' n) r q at a w =
    let i : r ≡ r' = cc in let j : q ≡ q' = cc in let l : at ≡ from + n = cc in
    record { used = n; goes = rw (i, j) a; place = l }
record-by x rest from (set q' n) r q at a w = let z : ◌≡◌ {A = ℕ} 0 1 = cc in let v : ⊥ = omega arith in absurd v
record-by x rest from (none z) r q at a w = let z : ◌≡◌ {A = ℕ} 0 1 = cc in let v : ⊥ = omega arith in absurd v

offset_by_lem : (x : Reader) (rest : List ℕ) (from : ℕ) (m : Move) (q : Place) (at : ℕ) → After x rest m → S.Offset q at ≡ step_in from m → Went x rest (A.Offset q) q from at
offset_by_lem x rest from (got r' q' n) q at a w = let z : ◌≡◌ {A = ℕ} 0 1 = cc in let v : ⊥ = omega arith in absurd v
offset_by_lem x rest from (set q' n) q at a w =
    let j : q ≡ q' = cc in let l : at ≡ from + n = cc in
    record { used = n; goes = rw j a; place = l }
offset_by_lem x rest from (none z) q at a w = let z : ◌≡◌ {A = ℕ} 0 1 = cc in let v : ⊥ = omega arith in absurd v

-- a step that is not the last of its part passed every test
abbrev is_stop : Step → Bool
is_stop (S.Record r q at) = false
is_stop (S.Offset q at) = false
is_stop (S.Stopped y) = true

stuck : {X : Type 0} (s : Step) → is_stop s ≡ true → is_stop s ≡ false → X
stuck s a b = let z : ◌≡◌ {A = ℕ} 0 1 = ap (λ (c : Bool). cond c 0 1) (sym a ∙ b) in let w : ⊥ = omega arith in absurd w

tests_by : (a b c : Bool) (u v z s : Step) → is_stop u ≡ true → is_stop v ≡ true → s ≡ cond a u (cond b u (cond (not c) v z)) → is_stop s ≡ false
    → (a ≡ false) × (b ≡ false) × (c ≡ true)
tests_by true b c u v z s i j e h = stuck u i (ap is_stop (sym e) ∙ h)
tests_by false true c u v z s i j e h = stuck u i (ap is_stop (sym e) ∙ h)
tests_by false false false u v z s i j e h = stuck v j (ap is_stop (sym e) ∙ h)
tests_by false false true u v z s i j e h = (refl, refl, refl)

passed-all : (x : Standing) (d part : List ℕ) (from : ℕ) (s : Step) → s ≡ step_of x d part from → is_stop s ≡ false
    → Ready x d × (taken (reader_of x d) + length (drop from part) ≤ most_bytes)
passed-all (Open p k) d part from s e h =
    let t = tests_by (ltb most_bytes (p.at + k + length (drop from part))) (ltb (length d) 62) (is_sound p (take k d)) (S.Stopped (Refused 15 p.at)) (S.Stopped (Refused 14 p.at)) (step_on p k d part from) s refl refl e h in
    let r = ltb-false (length d) 62 t.1 in
    let o = sound p k d r t.2 in
    let l = length-take-le k d (omega (arith, o.fits, r)) in
    (record { room = r; stood = o }, omega (arith, l, ltb-false most_bytes (p.at + k + length (drop from part)) t.0))
passed-all (Refused n at) d part from s e h = stuck s (ap is_stop e) h
passed-all Ended d part from s e h = stuck s (ap is_stop e) h

-- a record moves the place on, and not past the end of the part: whatever is kept, in whatever room
pub record-forth : (x : Standing) (d part : List ℕ) (from : ℕ) (r : Record) (q : Place) (at : ℕ) → S.Record r q at ≡ step_of x d part from → (from < at) × (at ≤ length part)
record-forth x d part from r q at e =
    let w = passed-all x d part from (S.Record r q at) e refl in
    let m = same x d part from w.0 w.1 in
    let g = record-by (reader_of x d) (drop from part) from m.move r q at m.after (e ∙ m.step) in
    let l = length-drop from part in
    (omega (arith, g.place, g.goes.some), omega (arith, g.place, g.goes.some, g.goes.inside, l))

pub offset-forth : (x : Standing) (d part : List ℕ) (from : ℕ) (q : Place) (at : ℕ) → S.Offset q at ≡ step_of x d part from → (from < at) × (at ≤ length part)
offset-forth x d part from q at e =
    let w = passed-all x d part from (S.Offset q at) e refl in
    let m = same x d part from w.0 w.1 in
    let g = offset_by_lem (reader_of x d) (drop from part) from m.move q at m.after (e ∙ m.step) in
    let l = length-drop from part in
    (omega (arith, g.place, g.goes.some), omega (arith, g.place, g.goes.some, g.goes.inside, l))

-- what is left of the part behind it
behind-it : {x : Reader} (p : List ℕ) {b : Reading} {q : Place} {from at : ℕ} (g : Went x (drop from p) b q from at) → drop g.used (drop from p) ≡ drop at p
behind-it {x} p {b} {q} {from} {at} g = drop-drop g.used from p ∙ ap (λ (j : ℕ). drop j p) (sym g.place)

fewer : {x : Reader} (p : List ℕ) {b : Reading} {q : Place} {from at : ℕ} (g : Went x (drop from p) b q from at) → taken x + length (drop from p) ≤ most_bytes
    → q.at + 0 + length (drop at p) ≤ most_bytes
fewer {x} p {b} {q} {from} {at} g h =
    omega (arith, g.goes.count, g.goes.inside, ap length (behind-it p g), length-drop g.used (drop from p))

open-ready : (q : Place) (e : List ℕ) → 62 ≤ length e → offset_allowed q.offset ≡ true → Ready (Open q 0) e
open-ready q e h o = record { room = h; stood = record { fits = zero-le; unfinished = refl; allowed = o } }

-- one part
pub calls-law : {x : Standing} {d p : List ℕ} {from : ℕ} {xs : List Reading} {z : Standing} {f : List ℕ} → Calls x d p from xs z f → Ready x d
    → taken (reader_of x d) + length (drop from p) ≤ most_bytes → Stays (reader_of x d) (drop from p) xs (reader_of z f) × Ready z f
calls-law (last {x} {d} {p} {from} {y} w) s h =
    let m = same x d p from s h in
    let l : 62 ≤ length (room_of x d p from) = omega (arith, m.size, s.room) in
    let v = stop_by_lem (reader_of x d) (drop from p) (room_of x d p from) from m.move y m.after m.holds l (w ∙ m.step) in
    (v.0, record { room = l; stood = v.1 })
calls-law (next {x} {d} {p} {from} {r} {q} {at} {xs} {z} {f} w cs) s h =
    let m = same x d p from s h in
    let l : 62 ≤ length (room_of x d p from) = omega (arith, m.size, s.room) in
    let g = record-by (reader_of x d) (drop from p) from m.move r q at m.after (w ∙ m.step) in
    let b = calls-law cs (open-ready q (room_of x d p from) l g.goes.kept.1) (fewer p g h) in
    (joins (reader_of x d) (reading q []) (reader_of z f) (drop from p) (A.Record r q) g.used xs g.goes (rw (behind-it p g) b.0), b.1)
calls-law (sets {x} {d} {p} {from} {q} {at} {xs} {z} {f} w cs) s h =
    let m = same x d p from s h in
    let l : 62 ≤ length (room_of x d p from) = omega (arith, m.size, s.room) in
    let g = offset_by_lem (reader_of x d) (drop from p) from m.move q at m.after (w ∙ m.step) in
    let b = calls-law cs (open-ready q (room_of x d p from) l g.goes.kept.1) (fewer p g h) in
    (joins (reader_of x d) (reading q []) (reader_of z f) (drop from p) (A.Offset q) g.used xs g.goes (rw (behind-it p g) b.0), b.1)

-- the end call
end_by : (x : Standing) (d : List ℕ) → Ready x d → end_in (finish_of x) ≡ end_of (reader_of x d)
end_by (Open p zero) d s = refl
end_by (Open p (suc k)) [] s = let w : ⊥ = omega (arith, s.room) in absurd w
end_by (Open p (suc k)) (b ∷ d) s = ap (λ (z : Bool). end_in (cond z Ended (Refused 11 p.at))) (ne_eqb (suc k) 0 (λ e. let w : ⊥ = omega (arith, e) in w))
end_by (Refused n at) d s = refl
end_by Ended d s = refl

pub session-law : {x : Standing} {d : List ℕ} {ps : List (List ℕ)} {xs : List Reading} {w : Ending} → Session x d ps xs w → Ready x d
    → taken (reader_of x d) + length (concat ps) ≤ most_bytes → ◌≡◌ {A = Run} (record { readings = xs; ending = w }) (left_of (reader_of x d) (concat ps))
unfolding concat
session-law (done {x} {d}) s h = ap stop (end_by x d s) ∙ end-law (reader_of x d) (kept_by x d s.stood)
session-law (more {x} {d} {p} {xs} {y} {e} {ps} {ys} {w} cs rest) s h =
    let l = length-append p (concat ps) in
    let a = calls-law cs s (omega (arith, l)) in
    ap (joined xs) (session-law rest a.1 (omega (arith, l, a.0.count))) ∙ sym (a.0.same (concat ps))

-- from the start, with a room of 62 bytes: what is read and how it ends are the whole's
pub reads_whole : {d : List ℕ} {ps : List (List ℕ)} {xs : List Reading} {w : Ending} → 62 ≤ length d → Session (Open start 0) d ps xs w
    → length (concat ps) ≤ most_bytes → ◌≡◌ {A = Run} (record { readings = xs; ending = w }) (whole_run (concat ps))
reads_whole {d} r s h = session-law s (open-ready start d r refl) (omega arith)

-- an empty part, and one with no byte left, changes nothing
pub empty-part : (x : Standing) (d part : List ℕ) (from : ℕ) → Ready x d → taken (reader_of x d) ≤ most_bytes → length part ≤ from
    → (step_of x d part from ≡ S.Stopped x) × (room_of x d part from ≡ d)
empty-part (Open p k) d part from y h l =
    let s = y.stood in
    let c = le-ltb most_bytes (p.at + k + (length part - from)) (omega (arith, h, length-take-le k d (omega (arith, s.fits, y.room)))) in
    let a = is-passed p k d part from c y.room (is_sound_lem p k d s) in
    let b = is-empty p k d part from s y.room l in
    (sym (b.0 ∙ a.0), sym (b.1 ∙ a.1))
empty-part (Refused n at) d part from y h l = (refl, refl)
empty-part Ended d part from y h l = (refl, refl)

-- a count over its limit is 15, ahead of all but a repeated answer: whatever is kept, in whatever room
pub over : (p : Place) (k : ℕ) (d part : List ℕ) (from : ℕ) → most_bytes < p.at + k + (length part - from)
    → (step_of (Open p k) d part from ≡ S.Stopped (Refused 15 p.at)) × (room_of (Open p k) d part from ≡ d)
over p k d part from h =
    let o = is-over p k d part from (lt-ltb most_bytes (p.at + k + (length part - from)) h) in
    (sym o.0, sym o.1)

-- after a refusal or an end, each later call gives that answer again and changes no byte of the room
pub again-refused : (n at : ℕ) (d part : List ℕ) (from : ℕ)
    → (step_of (Refused n at) d part from ≡ S.Stopped (Refused n at)) × (room_of (Refused n at) d part from ≡ d) × (finish_of (Refused n at) ≡ Refused n at)
again-refused n at d part from = (refl, refl, refl)

pub again-ended : (d part : List ℕ) (from : ℕ)
    → (step_of Ended d part from ≡ S.Stopped Ended) × (room_of Ended d part from ≡ d) × (finish_of Ended ≡ Ended)
again-ended d part from = (refl, refl, refl)

-- an end call stops the reader: with an unfinished record it is 11 at the place where the record starts
pub end-call : (p : Place) (k : ℕ) → (finish_of (Open p 0) ≡ Ended) × (finish_of (Open p (suc k)) ≡ Refused 11 p.at)
end-call p k = (refl, ap (λ (b : Bool). cond b Ended (Refused 11 p.at)) (ne_eqb (suc k) 0 (λ e. let w : ⊥ = omega (arith, e) in w)))
