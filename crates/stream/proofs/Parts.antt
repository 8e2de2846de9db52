-- Wherever a stream is cut, its parts are read as the whole. Assumes nothing.
use Rattle.refusal.specs.declared.Refusal.{Refusal}
use Rattle.refusal.specs.Refusals.{number_of}
use Prim.Native.Nat.{ℕ, zero, suc, ◌+◌, ◌-◌, ◌≤◌, ◌<◌, zero-le}
use native.Mathlib.Omega.{arith}
use mathlib.Core.Path.{◌≡◌, refl, sym, ap, ◌∙◌}
use mathlib.Core.List.{List, [], ◌∷◌, ◌++◌, append_assoc, append-nil}
use mathlib.Core.Bool.{Bool, true, false, cond}
use lib.ListN.{length, take, drop, length-append, length-drop, take-append-drop}
use lib.Seq.{drop-drop, drop_at, drop-append-le}
use lib.Dec.{eqb}
use borrow.Author.Tests.{le-ltb, eqb-true, eq-eqb}
use Rattle.facts.proofs.Lists.{take_short}
use Rattle.text.specs.Pieces.{concat}
use Rattle.session.specs.declared.record.Record.{Record}
use Rattle.session.specs.declared.record.Decoded.{Decoded}
use Rattle.session.specs.declared.record.Decoded.TheVariants.{Whole, Offset, Refused}
use Rattle.session.specs.declared.Place.{Place}
use Rattle.session.specs.declared.Reading.{Reading}
use Rattle.session.specs.declared.Reading.TheVariants as A
use Rattle.session.specs.Limits.{offset_allowed}
use Rattle.session.specs.Read.{start}
use Rattle.session.proofs.Offsets.{at_offset}
use Rattle.session.proofs.OffsetBack.{stable-at}
use Rattle.stream.specs.Stream.{refused, Run, stop, with_reading, joined, ending_of, past, found_at, whole_from, whole_run, Reader, reading, stopped, Move, got, set, none, most_bytes, seen, move_for, move_of, feed_in, feed_of, end_of, parts_of}
use Rattle.stream.proofs.Cut.{cut_number, short, record-past, offset-past}
use Rattle.stream.proofs.Whole.{found-fits, offset-fits, whole-record, whole-offset, whole-refused}

-- what a reader is to answer yet, with s to come
abbrev pub left_of : Reader → List ℕ → Run
left_of (reading p kept) s = whole_from p (kept ++ s)
left_of (stopped e) s = stop e

-- what is kept is the front of an unfinished record, and the offset is allowed
abbrev pub Kept : Reader → Type 0
Kept (reading p kept) = (found_at p kept ≡ Refused Refusal.CutShort) × (offset_allowed p.offset ≡ true)
Kept (stopped e) = Unit {0}

-- the bytes taken so far, while it goes on
abbrev pub taken : Reader → ℕ
taken (reading p kept) = p.at + length kept
taken (stopped e) = 0

-- a move changes nothing of what is to be answered
pub record Goes (x : Reader) (rest : List ℕ) (a : Reading) (n : ℕ) (y : Reader) : Type 0 where
  pub some : 1 ≤ n
  pub inside : n ≤ length rest
  pub kept : Kept y
  pub count : taken y ≤ taken x + n
  pub same : (t : List ℕ) → left_of x (rest ++ t) ≡ with_reading a (left_of y (drop n rest ++ t))

pub record Stays (x : Reader) (rest : List ℕ) (xs : List Reading) (y : Reader) : Type 0 where
  pub kept : Kept y
  pub count : taken y ≤ taken x + length rest
  pub same : (t : List ℕ) → left_of x (rest ++ t) ≡ joined xs (left_of y t)

abbrev pub After : Reader → List ℕ → Move → Type 0
After x rest (got r q n) = Goes x rest (A.Record r q) n (reading q [])
After x rest (set q n) = Goes x rest (A.Offset q) n (reading q [])
After x rest (none y) = Stays x rest [] y

never : (n : Refusal) → eqb (number_of n) 11 ≡ false → Refused n ≡ Refused Refusal.CutShort → ⊥
never n h y =
    let e : n ≡ Refusal.CutShort = cc in
    let f : true ≡ false = sym (eq-eqb (number_of n) 11 (ap number_of e)) ∙ h in
    let z : ◌≡◌ {A = ℕ} 0 1 = ap (λ (b : Bool). cond b 0 1) f in
    let w : ⊥ = omega arith in w

-- only what is not empty is refused with another number than 11
full : (p : Place) (s : List ℕ) (n : Refusal) → found_at p s ≡ Refused n → eqb (number_of n) 11 ≡ false → ending_of s (number_of n) p.at ≡ refused (number_of n) p.at
full p [] n e h = absurd (never n h (sym e))
full p (b ∷ s) n e h = refl

-- what is read goes on with nothing kept
open_kept : (q : Place) → offset_allowed q.offset ≡ true → Kept (reading q [])
open_kept q o = (refl, o)

module _ (p : Place) (kept rest : List ℕ) (k : Kept (reading p kept)) where
  -- the bytes that are decoded, and those behind them
  apart : (t : List ℕ) → kept ++ (rest ++ t) ≡ (kept ++ take (62 - length kept) rest) ++ (drop (62 - length kept) rest ++ t)
  apart t =
      ap (λ (l : List ℕ). kept ++ (l ++ t)) (sym (take-append-drop (62 - length kept) rest))
      ∙ simp append_assoc

  sizes : length rest ≡ length (take (62 - length kept) rest) + length (drop (62 - length kept) rest)
  sizes = ap length (sym (take-append-drop (62 - length kept) rest)) ∙ length-append (take (62 - length kept) rest) (drop (62 - length kept) rest)

  -- what is certain stays, whatever comes
  certain : (d : Decoded) → found_at p (seen kept rest) ≡ d → (d ≡ Refused Refusal.CutShort → ⊥) → (t : List ℕ) → found_at p (kept ++ (rest ++ t)) ≡ d
  certain d e z t =
      ap (found_at p) (apart t)
      ∙ stable-at (eqb p.at 0) (seen kept rest) (drop (62 - length kept) rest ++ t) (λ y. z (sym e ∙ y))
      ∙ e

  -- a reading of n bytes
  on : (a : Reading) (q : Place) (n : ℕ) (d : Decoded) → found_at p (seen kept rest) ≡ d → (d ≡ Refused Refusal.CutShort → ⊥)
      → length kept < n → n ≤ length (seen kept rest) → q.at ≤ p.at + n → offset_allowed q.offset ≡ true
      → ((s : List ℕ) → found_at p s ≡ d → whole_from p s ≡ with_reading a (whole_from q (drop n s)))
      → Goes (reading p kept) rest a (n - length kept) (reading q [])
  on a q n d e z l m c o w =
      let u = length-append kept (take (62 - length kept) rest) in
      let i : n - length kept ≤ length rest = omega (arith, l, m, u, sizes) in
      let j : length kept + (n - length kept) ≡ n = omega (arith, l) in
      record {
        some = omega (arith, l);
        inside = i;
        kept = open_kept q o;
        count = omega (arith, l, c);
        same = λ t.
            let f : drop n (kept ++ (rest ++ t)) ≡ drop (n - length kept) rest ++ t =
            ap (λ (v : ℕ). drop v (kept ++ (rest ++ t))) (sym j) ∙ sym (drop-drop (n - length kept) (length kept) (kept ++ (rest ++ t)))
            ∙ ap (drop (n - length kept)) (drop_at kept (rest ++ t) (length kept) refl)
            ∙ drop-append-le (n - length kept) rest t i in
            w (kept ++ (rest ++ t)) (certain d e z t) ∙ ap (λ (v : List ℕ). with_reading a (whole_from q v)) f;
      }

  pub on-record : (r : Record) (n : ℕ) → found_at p (seen kept rest) ≡ Whole r n → Goes (reading p kept) rest (A.Record r (past p n)) (n - length kept) (reading (past p n) [])
  on-record r n e =
      on (A.Record r (past p n)) (past p n) n (Whole r n) e (λ y. let v : ◌≡◌ {A = ℕ} 0 1 = cc in let w : ⊥ = omega arith in w)
      (record-past (eqb p.at 0) kept (take (62 - length kept) rest) r n k.0 e) (found-fits p (seen kept rest) r n e).1 (omega arith) k.1
      (λ s f. whole-record p s r n f)

  pub on-offset : (q : Place) → q.at ≡ 8 → found_at p (seen kept rest) ≡ Offset q.offset → Goes (reading p kept) rest (A.Offset q) (8 - length kept) (reading q [])
  on-offset q i e =
      on (A.Offset q) q 8 (Offset q.offset) e (λ y. let v : ◌≡◌ {A = ℕ} 0 1 = cc in let w : ⊥ = omega arith in w)
      (offset-past (eqb p.at 0) kept (take (62 - length kept) rest) q.offset k.0 e) (offset-fits p (seen kept rest) q.offset e) (omega (arith, i)) (at_offset (eqb p.at 0) (seen kept rest) q.offset e).allowed
      (λ s f. whole-offset p q s i f)

  -- where 11 is found, all of the part was seen
  pub all_seen : found_at p (seen kept rest) ≡ Refused Refusal.CutShort → take (62 - length kept) rest ≡ rest
  all_seen e =
      let l = length-append kept (take (62 - length kept) rest) in
      take_short (62 - length kept) rest (omega (arith, short (eqb p.at 0) kept k.0, short (eqb p.at 0) (seen kept rest) e, l))

  waits : found_at p (seen kept rest) ≡ Refused Refusal.CutShort → Stays (reading p kept) rest [] (reading p (kept ++ rest))
  waits e =
      record {
        kept = (ap (λ (z : List ℕ). found_at p (kept ++ z)) (sym (all_seen e)) ∙ e, k.1);
        count = omega (arith, length-append kept rest);
        same = λ t. ap (whole_from p) (sym (append_assoc kept rest t));
      }

  stops : (n : Refusal) → found_at p (seen kept rest) ≡ Refused n → eqb (number_of n) 11 ≡ false → Stays (reading p kept) rest [] (stopped (refused (number_of n) p.at))
  stops n e h =
      record {
        kept = tt;
        count = zero-le;
        same = λ t.
            let d = certain (Refused n) e (never n h) t in
            whole-refused p (kept ++ (rest ++ t)) n d ∙ ap stop (full p (kept ++ (rest ++ t)) n d h);
      }

  by-eleven : (n : Refusal) (b : Bool) → eqb (number_of n) 11 ≡ b → found_at p (seen kept rest) ≡ Refused n
      → Stays (reading p kept) rest [] (cond b (reading p (kept ++ rest)) (stopped (refused (number_of n) p.at)))
  by-eleven n true i e = waits (e ∙ ap Refused (cut_number n (eqb-true (number_of n) 11 i)))
  by-eleven n false i e = stops n e i

  by-decoded : (d : Decoded) → found_at p (seen kept rest) ≡ d → After (reading p kept) rest (move_for d p kept rest)
  by-decoded (Whole r n) e = on-record r n e
  by-decoded (Offset z) e = on-offset (record { at = 8; offset = z }) refl e
  by-decoded (Refused n) e = by-eleven n (eqb (number_of n) 11) refl e

-- one move
pub move-law : (x : Reader) (rest : List ℕ) → Kept x → taken x + length rest ≤ most_bytes → After x rest (move_of x rest)
move-law (reading p kept) rest k h =
    rw (le-ltb most_bytes (p.at + length kept + length rest) h) (by-decoded p kept rest k (found_at p (seen kept rest)) refl)
move-law (stopped e) rest k h = record { kept = tt; count = zero-le; same = λ t. refl }

-- a reading, and all moves behind it
pub joins : (x y z : Reader) (rest : List ℕ) (a : Reading) (n : ℕ) (xs : List Reading) → Goes x rest a n y → Stays y (drop n rest) xs z → Stays x rest (a ∷ xs) z
joins x y z rest a n xs g b =
    let e = length-drop n rest in
    record {
      kept = b.kept;
      count = omega (arith, g.count, b.count, g.inside, e);
      same = λ t. g.same t ∙ ap (with_reading a) (b.same t);
    }

-- all moves of a part
feed_in_lem : (f : ℕ) (x : Reader) (rest : List ℕ) (m : Move) → After x rest m → taken x + length rest ≤ most_bytes → length rest < f
    → Stays x rest (feed_in f m rest).readings (feed_in f m rest).reader
unfolding feed_in
feed_in_lem zero x rest m a h l = let w : ⊥ = omega arith in absurd w
feed_in_lem (suc f) x rest (got r q n) a h l =
    let y = reading q [] in
    let e = length-drop n rest in
    let o : taken y + length (drop n rest) ≤ most_bytes = omega (arith, a.count, a.inside, e) in
    let b = feed_in_lem f y (drop n rest) (move_of y (drop n rest)) (move-law y (drop n rest) a.kept o) o (omega (arith, a.some, a.inside, e)) in
    let m = feed_in f (move_of y (drop n rest)) (drop n rest) in
    joins x y m.reader rest (A.Record r q) n m.readings a b
feed_in_lem (suc f) x rest (set q n) a h l =
    let y = reading q [] in
    let e = length-drop n rest in
    let o : taken y + length (drop n rest) ≤ most_bytes = omega (arith, a.count, a.inside, e) in
    let b = feed_in_lem f y (drop n rest) (move_of y (drop n rest)) (move-law y (drop n rest) a.kept o) o (omega (arith, a.some, a.inside, e)) in
    let m = feed_in f (move_of y (drop n rest)) (drop n rest) in
    joins x y m.reader rest (A.Offset q) n m.readings a b
feed_in_lem (suc f) x rest (none y) a h l = a

pub feed-law : (x : Reader) (part : List ℕ) → Kept x → taken x + length part ≤ most_bytes
    → Stays x part (feed_of x part).readings (feed_of x part).reader
feed-law x part k h = feed_in_lem (suc (length part)) x part (move_of x part) (move-law x part k h) h (omega arith)

pub end-law : (x : Reader) → Kept x → stop (end_of x) ≡ left_of x []
end-law (reading p kept) k = sym (ap (whole_from p) (append-nil kept) ∙ whole-refused p kept Refusal.CutShort k.0)
end-law (stopped e) k = refl

pub parts-law : (ps : List (List ℕ)) (x : Reader) → Kept x → taken x + length (concat ps) ≤ most_bytes → parts_of x ps ≡ left_of x (concat ps)
unfolding parts_of concat
parts-law [] x k h = end-law x k
parts-law (p ∷ ps) x k h =
    let l = length-append p (concat ps) in
    let a = feed-law x p k (omega (arith, l)) in
    ap (joined (feed_of x p).readings) (parts-law ps (feed_of x p).reader a.kept (omega (arith, l, a.count)))
    ∙ sym (a.same (concat ps))

-- wherever a stream of at most 2^63 - 1 bytes is cut: its records, its refusal and the place, and its end are the whole's
pub any-parts : (ps : List (List ℕ)) → length (concat ps) ≤ most_bytes → parts_of (reading start []) ps ≡ whole_run (concat ps)
any-parts ps h = parts-law ps (reading start []) (refl, refl) (omega arith)
