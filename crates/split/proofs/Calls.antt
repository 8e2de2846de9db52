-- Any calls that the contract allows give the lines of the whole. Assumes nothing.
use Prim.Native.Nat.{ℕ, zero, suc, ◌+◌, ◌-◌, ◌≤◌, ◌<◌, zero-le}
use native.Mathlib.Nat.{sub-zero}
use native.Mathlib.Omega.{arith}
use mathlib.Core.Path.{◌≡◌, refl, sym, ap, ◌∙◌}
use mathlib.Core.List.{List, [], ◌∷◌, ◌++◌, append_assoc, append-nil}
use mathlib.Core.Bool.{Bool, true, false, cond}
use lib.ListN.{length, take, drop, length-append, length-drop}
use lib.Seq.{drop-drop, take_all, take_at, length-take-le}
use lib.Dec.{ltb, eqb}
use borrow.Author.Tests.{ltb-true, ltb-false}
use Rattle.facts.proofs.Lists.{take-most}
use Rattle.split.specs.declared.Found.TheVariants.{Line, Kept}
use Rattle.text.specs.Pieces.{concat}
use Rattle.split.specs.Split.{Rows, line_ended, grown, rows_from, joined, lines_from, cut, ahead, added, found_of, room_of}
use Rattle.split.specs.Calls.{Calls, last, next, Input, done, part}
use Rattle.split.proofs.Parts.{one-cut, take-front, take_none, cut-lines}

abbrev keeps : List ℕ → Rows
keeps k = record { lines = []; kept = k }

-- a line of which some bytes are kept goes on
on : (cap : ℕ) (kept : List ℕ) (b : ℕ) (s : List ℕ) → take cap (take cap (kept ++ (b ∷ [])) ++ s) ≡ take cap (kept ++ (b ∷ s))
on cap kept b s = take-front cap (kept ++ (b ∷ [])) s ∙ ap (take cap) (append_assoc kept (b ∷ []) s)

-- the first line, where there is a newline
line-by : (e : Bool) (cap : ℕ) (kept : List ℕ) (b : ℕ) (s : List ℕ) → length kept ≤ cap
    → ((k : List ℕ) → length k ≤ cap → length (ahead s) < length s → rows_from cap k s ≡ line_ended true (take cap (k ++ ahead s)) (rows_from cap [] (drop (suc (length (ahead s))) s)))
    → length (cond e [] (b ∷ ahead s)) < length (b ∷ s)
    → line_ended e kept (rows_from cap (grown e cap kept b) s)
    ≡ line_ended true (take cap (kept ++ cond e [] (b ∷ ahead s))) (rows_from cap [] (drop (suc (length (cond e [] (b ∷ ahead s)))) (b ∷ s)))
line-by true cap kept b s h i l =
    ap (λ (k : List ℕ). line_ended true k (rows_from cap [] s)) (sym (ap (take cap) (append-nil kept) ∙ take_all cap kept h))
line-by false cap kept b s h i l =
    i (take cap (kept ++ (b ∷ []))) (take-most cap (kept ++ (b ∷ []))) (omega (arith, l))
    ∙ ap (λ (k : List ℕ). line_ended true k (rows_from cap [] (drop (suc (length (ahead s))) s))) (on cap kept b (ahead s))

pub rows-line : (cap : ℕ) (s kept : List ℕ) → length kept ≤ cap → length (ahead s) < length s
    → rows_from cap kept s ≡ line_ended true (take cap (kept ++ ahead s)) (rows_from cap [] (drop (suc (length (ahead s))) s))
unfolding rows_from ahead
rows-line cap [] kept h l = let w : ⊥ = omega (arith, l) in absurd w
rows-line cap (b ∷ s) kept h l = line-by (eqb b 10) cap kept b s h (λ k m n. rows-line cap s k m n) l

none-by : (e : Bool) (cap : ℕ) (kept : List ℕ) (b : ℕ) (s : List ℕ) → length kept ≤ cap
    → ((k : List ℕ) → length k ≤ cap → length s ≤ length (ahead s) → rows_from cap k s ≡ record { lines = []; kept = take cap (k ++ ahead s) })
    → length (b ∷ s) ≤ length (cond e [] (b ∷ ahead s))
    → line_ended e kept (rows_from cap (grown e cap kept b) s) ≡ record { lines = []; kept = take cap (kept ++ cond e [] (b ∷ ahead s)) }
none-by true cap kept b s h i l = let w : ⊥ = omega (arith, l) in absurd w
none-by false cap kept b s h i l =
    i (take cap (kept ++ (b ∷ []))) (take-most cap (kept ++ (b ∷ []))) (omega (arith, l))
    ∙ ap keeps (on cap kept b (ahead s))

-- and where there is none
pub rows_none : (cap : ℕ) (s kept : List ℕ) → length kept ≤ cap → length s ≤ length (ahead s)
    → rows_from cap kept s ≡ record { lines = []; kept = take cap (kept ++ ahead s) }
unfolding rows_from ahead
rows_none cap [] kept h l = ap keeps (sym (ap (take cap) (append-nil kept) ∙ take_all cap kept h))
rows_none cap (b ∷ s) kept h l = none-by (eqb b 10) cap kept b s h (λ k m n. rows_none cap s k m n) l

-- what stands at the front of the room is the line, as much of it as there is room for
take_split : (cap : ℕ) (x y : List ℕ) → length x ≤ cap → take cap (x ++ y) ≡ x ++ take (cap - length x) y
take_split cap [] y h = ap (λ (j : ℕ). take j y) (sym (sub-zero cap))
take_split zero (b ∷ x) y h = let w : ⊥ = omega (arith, h) in absurd w
take_split (suc cap) (b ∷ x) y h =
    let e : cap - length x ≡ suc cap - length (b ∷ x) = omega arith in
    ap (λ (z : List ℕ). b ∷ z) (take_split cap x y (omega (arith, h)) ∙ ap (λ (j : ℕ). x ++ take j y) e)

module _ (d : List ℕ) (k : ℕ) (rest : List ℕ) (h : k ≤ length d) where
  size : length (take k d) ≡ k
  size = length-take-le k d h

  front : take (k + length (added d k rest)) (room_of d k rest) ≡ take (length d) (take k d ++ ahead rest)
  front =
      ap (take (k + length (added d k rest))) (sym (append_assoc (take k d) (added d k rest) (drop (k + length (added d k rest)) d)))
      ∙ take_at (take k d ++ added d k rest) (drop (k + length (added d k rest)) d) (k + length (added d k rest)) (length-append (take k d) (added d k rest) ∙ ap (λ (j : ℕ). j + length (added d k rest)) size)
      ∙ ap (λ (j : ℕ). take k d ++ take (length d - j) (ahead rest)) (sym size)
      ∙ sym (take_split (length d) (take k d) (ahead rest) (omega (arith, size, h)))

  room-size : length (room_of d k rest) ≡ length d
  room-size =
      length-append (take k d) (added d k rest ++ drop (k + length (added d k rest)) d)
      ∙ omega (arith, size, h, length-append (added d k rest) (drop (k + length (added d k rest)) d), length-drop (k + length (added d k rest)) d, take-most (length d - k) (ahead rest))

  room-kept : k + length (added d k rest) ≤ length d
  room-kept = omega (arith, h, take-most (length d - k) (ahead rest))

line-told : (b : Bool) (n at m to : ℕ) → Line n at ≡ cond b (Line m to) (Kept m) → (b ≡ true) × (n ≡ m) × (at ≡ to)
line-told true n at m to e = (refl, cc, cc)
line-told false n at m to e = let z : ◌≡◌ {A = ℕ} 0 1 = cc in let w : ⊥ = omega arith in absurd w

kept-told : (b : Bool) (n m to : ℕ) → Kept n ≡ cond b (Line m to) (Kept m) → (b ≡ false) × (n ≡ m)
kept-told true n m to e = let z : ◌≡◌ {A = ℕ} 0 1 = cc in let w : ⊥ = omega arith in absurd w
kept-told false n m to e = (refl, cc)

-- what the calls of a part gave
pub record Gave (d : List ℕ) (k : ℕ) (s : List ℕ) (ls : List (List ℕ)) (f : List ℕ) (m : ℕ) : Type 0 where
  pub rows : rows_from (length d) (take k d) s ≡ record { lines = ls; kept = take m f }
  pub size : length f ≡ length d
  pub inside : m ≤ length f

pub calls-law : {d : List ℕ} {k : ℕ} {p : List ℕ} {from : ℕ} {ls : List (List ℕ)} {f : List ℕ} {m : ℕ} → Calls d k p from ls f m
    → k ≤ length d → from ≤ length p → Gave d k (drop from p) ls f m
calls-law (last {d} {k} {p} {from} {n} e) h l =
    let rest = drop from p in
    let t = kept-told (ltb (length (ahead rest)) (length rest)) n (k + length (added d k rest)) (from + length (ahead rest) + 1) e in
    let c = ltb-false (length (ahead rest)) (length rest) t.0 in
    record {
      rows =
          rows_none (length d) rest (take k d) (omega (arith, size d k rest h, h)) c
          ∙ ap keeps (sym (front d k rest h) ∙ ap (λ (j : ℕ). take j (room_of d k rest)) (sym t.1));
      size = room-size d k rest h;
      inside = omega (arith, room-size d k rest h, room-kept d k rest h, t.1);
    }
calls-law (next {d} {k} {p} {from} {n} {at} {ls} {f} {m} e cs) h l =
    let rest = drop from p in
    let t = line-told (ltb (length (ahead rest)) (length rest)) n at (k + length (added d k rest)) (from + length (ahead rest) + 1) e in
    let c = ltb-true (length (ahead rest)) (length rest) t.0 in
    let z = room-size d k rest h in
    let i : from + suc (length (ahead rest)) ≡ at = omega (arith, t.2) in
    let g = calls-law cs zero-le (omega (arith, c, length-drop from p, t.2)) in
    record {
      rows =
          rows-line (length d) rest (take k d) (omega (arith, size d k rest h, h)) c
          ∙ ap (λ (x : List ℕ). line_ended true x (rows_from (length d) [] (drop (suc (length (ahead rest))) rest))) (sym (front d k rest h) ∙ ap (λ (j : ℕ). take j (room_of d k rest)) (sym t.1))
          ∙ ap (λ (x : List ℕ). line_ended true (take n (room_of d k rest)) (rows_from (length d) [] x)) (drop-drop (suc (length (ahead rest))) from p ∙ ap (λ (j : ℕ). drop j p) i)
          ∙ ap (λ (j : ℕ). line_ended true (take n (room_of d k rest)) (rows_from j [] (drop at p))) (sym z)
          ∙ ap (line_ended true (take n (room_of d k rest))) g.rows;
      size = g.size ∙ z;
      inside = g.inside;
    }

-- all parts: the lines and what is kept are those of the whole
pub input-law : {d : List ℕ} {k : ℕ} {ps ls : List (List ℕ)} {w : List ℕ} → Input d k ps ls w → k ≤ length d
    → rows_from (length d) (take k d) (concat ps) ≡ record { lines = ls; kept = w }
unfolding concat rows_from
input-law (done {d} {k}) h = refl
input-law (part {d} {k} {p} {ls} {e} {n} {ps} {ms} {w} cs more) h =
    let g = calls-law cs h zero-le in
    one-cut (length d) (take k d) p (concat ps)
    ∙ ap (λ (x : Rows). joined x.lines (rows_from (length d) x.kept (concat ps))) g.rows
    ∙ ap (λ (j : ℕ). joined ls (rows_from j (take n e) (concat ps))) (sym g.size)
    ∙ ap (joined ls) (input-law more g.inside)

-- from an empty room: the input's own lines, of each no more than the room has bytes
pub reads_lines : {d : List ℕ} {ps ls : List (List ℕ)} {w : List ℕ} → Input d 0 ps ls w
    → ◌≡◌ {A = Rows} (record { lines = ls; kept = w }) (cut (length d) (lines_from [] (concat ps)))
reads_lines {d} {ps} {ls} {w} i =
    sym (input-law i zero-le) ∙ ap (λ (x : List ℕ). rows_from (length d) x (concat ps)) (sym (take_none (length d))) ∙ cut-lines (length d) (concat ps) []

-- one call: a line, and what is behind it
pub record Lined (d : List ℕ) (k : ℕ) (p : List ℕ) (from n at : ℕ) : Type 0 where
  pub rows : rows_from (length d) (take k d) (drop from p) ≡ line_ended true (take n (room_of d k (drop from p))) (rows_from (length d) [] (drop at p))
  pub size : length (room_of d k (drop from p)) ≡ length d
  pub short : n ≤ length d
  pub forth : from < at
  pub inside : at ≤ length p

pub line-law : (d : List ℕ) (k : ℕ) (p : List ℕ) (from n at : ℕ) → Line n at ≡ found_of d k from (drop from p) → k ≤ length d → from ≤ length p → Lined d k p from n at
line-law d k p from n at e h l =
    let rest = drop from p in
    let t = line-told (ltb (length (ahead rest)) (length rest)) n at (k + length (added d k rest)) (from + length (ahead rest) + 1) e in
    let c = ltb-true (length (ahead rest)) (length rest) t.0 in
    let i : from + suc (length (ahead rest)) ≡ at = omega (arith, t.2) in
    record {
      rows =
          rows-line (length d) rest (take k d) (omega (arith, size d k rest h, h)) c
          ∙ ap (λ (x : List ℕ). line_ended true x (rows_from (length d) [] (drop (suc (length (ahead rest))) rest))) (sym (front d k rest h) ∙ ap (λ (j : ℕ). take j (room_of d k rest)) (sym t.1))
          ∙ ap (λ (x : List ℕ). line_ended true (take n (room_of d k rest)) (rows_from (length d) [] x)) (drop-drop (suc (length (ahead rest))) from p ∙ ap (λ (j : ℕ). drop j p) i);
      size = room-size d k rest h;
      short = omega (arith, room-kept d k rest h, t.1);
      forth = omega (arith, t.2);
      inside = omega (arith, c, length-drop from p, t.2);
    }
