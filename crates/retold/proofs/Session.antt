-- The lines that are shown of a whole session, entered, make its bytes. Assumes nothing.
use Rattle.refusal.specs.declared.Refusal.{Refusal}
use Prim.Native.Nat.{ℕ, ◌+◌, ◌≤◌}
use native.Mathlib.Omega.{arith}
use mathlib.Core.Path.{◌≡◌, refl, sym, ap, ◌∙◌}
use mathlib.Core.List.{List, [], ◌∷◌, ◌++◌}
use mathlib.Core.Bool.{Bool, true, false, cond, not}
use lib.ListN.{length, take, drop, length-drop}
use lib.Seq.{length-take-le, take-add, take_all}
use lib.Dec.{ltb, eqb}
use borrow.Author.Tests.{le-leb, eqb-true, eq-eqb}
use Rattle.session.specs.declared.record.Record.{Record}
use Rattle.session.specs.declared.record.Record.TheVariants as R
use Rattle.session.specs.declared.record.Decoded.{Decoded}
use Rattle.session.specs.declared.record.Decoded.TheVariants as D
use Rattle.session.specs.declared.Place.{Place}
use Rattle.session.specs.declared.Reading.{Reading}
use Rattle.session.specs.declared.Reading.TheVariants as A
use Rattle.session.specs.Limits.{offset_allowed}
use Rattle.session.specs.Kinds.{record_length}
use Rattle.session.specs.Layout.{kind_in, bytes_of}
use Rattle.session.specs.Offset.{decode_at, offset_bytes}
use Rattle.session.specs.Decode.{allowed_in}
use Rattle.session.specs.Read.{start, placed, read_at}
use Rattle.field.proofs.Bytes.{Bytes, bytes_drop}
use Rattle.session.proofs.Heads.{whole-fits}
use Rattle.session.proofs.ReadBack.{bytes-of-length}
use Rattle.session.proofs.WriteBack.{write-back}
use Rattle.session.proofs.Allowed.{decoded-allowed}
use Rattle.session.proofs.Progress.{found}
use Rattle.text.specs.Text.{Stands}
use Rattle.text.proofs.Stand.{before-place, same_size}
use Rattle.writer.specs.Write.{has_room, place_behind, written_of, buffer_of, offset_may, offset_buffer}
use Rattle.writer.proofs.Cases.{stood}
use Rattle.writer.proofs.Laws.{offset-length}
use Rattle.writer.proofs.OffsetWritten.{offset-found}
use Rattle.session.proofs.Offsets.{at_offset}
use Rattle.session.proofs.OffsetBack.{offset-write-back}
use Rattle.session.proofs.Limits.{offset-small}
use mir.Syntax.{w16}
use mir.Val.{SFits}
use Rattle.entry.specs.declared.line.Entry.{Entry}
use Rattle.entry.specs.declared.line.Entry.TheVariants as E
use Rattle.entry.specs.Entries.{entry_of}
use Rattle.enter.specs.Enter.{as_entered_by, entry_written, entry_session, entered_by, session_of}
use Rattle.book.specs.declared.Progress.{Progress}
use Rattle.book.specs.declared.Ended.{Ended as EndedOf}
use Rattle.std.specs.Prelude.{Ok, Result}
use Rattle.book.specs.Book.{one_more, as_progress, progress_by, progress_over_by, progress_over, written_over_by, written_by}
use Rattle.book.proofs.Laws.{turns-none-by, turns-more-by}
use Rattle.retold.specs.Said.{line_text, offset_text, said_of}
use Rattle.retold.proofs.Retold.{retold, offset-retold}
use Rattle.retold.proofs.TwoLines.{comment-skipped}

-- one line more, and the place behind its record
abbrev next_line : ℕ → Progress → Progress
next_line a p = record { at = a; count = one_more p.count }

-- a line that was entered leads on, with anything in the place of a refusal
step : {R : Type 0} (given : Refusal → R) (d : List ℕ) (p : Progress) (l : List ℕ) (ls : List (List ℕ)) (e : Entry) (a : ℕ) (f : List ℕ)
    → entry_of l ≡ Ok e → entry_written d p.at e ≡ Ok a → entry_session d p.at e ≡ f
    → (progress_over_by given (l ∷ ls) d (Ok p) ≡ progress_over_by given ls f (Ok (next_line a p)))
    × (written_over_by given (l ∷ ls) d (Ok p) ≡ written_over_by given ls f (Ok (next_line a p)))
step given d p l ls e a f h g i =
    let t = turns-more-by given d p l ls in
    let x : session_of d p.at (entry_of l) ≡ f = ap (session_of d p.at) h ∙ i in
    let y : progress_by given d p l ≡ Ok (next_line a p) = ap (as_progress (one_more p.count)) (ap (entered_by given d p.at) h ∙ ap (as_entered_by given) g) in (
      t.0 ∙ ap (λ (z : List ℕ). progress_over_by given ls z (progress_by given d p l)) x ∙ ap (progress_over_by given ls f) y,
      t.1 ∙ ap (λ (z : List ℕ). written_over_by given ls z (progress_by given d p l)) x ∙ ap (written_over_by given ls f) y,
    )

-- a record as a line says it is written as the record
as-record : (d : List ℕ) (at : ℕ) (r : Record) → (entry_written d at (said_of r) ≡ written_of d at r) × (entry_session d at (said_of r) ≡ buffer_of d at r)
as-record d at (R.State r) = (refl, refl)
as-record d at (R.Burn r) = (refl, refl)
as-record d at (R.Mark r) = (refl, refl)

-- the record at a place of s, entered into a buffer that holds what is ahead of it
pub record Entered (s d : List ℕ) (at to : ℕ) (e : Entry) : Type 0 where
  pub answer : entry_written d at e ≡ Ok to
  pub wide : length s ≤ length (entry_session d at e)
  pub ahead : take to (entry_session d at e) ≡ take to s

record-entered : (s d : List ℕ) (p q : Place) (r : Record) → Bytes s → read_at s p ≡ A.Record r q → length s ≤ length d → take p.at d ≡ take p.at s → Entered s d p.at q.at (said_of r)
record-entered s d p q r b e w h =
    let f = found s p r q e in
    let n = f.size in
    let at = p.at in
    let l = drop at s in
    let z = whole-fits l r n f.whole in
    let y = write-back l (bytes_drop at s b) r n f.whole in
    let m : n ≡ record_length (kind_in r) = sym (length-take-le n l z.1) ∙ ap length (sym y) ∙ bytes-of-length r in
    let k : place_behind at r ≡ q.at = ap (λ (x : ℕ). at + x) (sym m) ∙ sym f.next in
    let g : place_behind at r ≤ length s = omega (arith, k, f.next, z.0, z.1, length-drop at s) in
    let i : has_room at (record_length (kind_in r)) (length d) ≡ true =
    rw (le-leb (place_behind at r) (length d) (omega (arith, g, w)), le-leb (place_behind at r) 65536 (omega (arith, g, f.short))) refl in
    let a = (decoded-allowed l (bytes_drop at s b) r n f.whole).0 in
    let t = stood (allowed_in r) d at (record_length (kind_in r)) (bytes_of r) a i in
    let u : Stands d at (bytes_of r) (buffer_of d at r) (place_behind at r) =
    record { next = ap (λ (x : ℕ). at + x) (sym (bytes-of-length r)); within = omega (arith, g, w); whole = sym t.1 } in
    let c = as-record d at r in
    record {
      answer = c.0 ∙ sym t.0 ∙ ap Ok k;
      wide = rw (c.1, same_size u) w;
      ahead =
          ap (take q.at) c.1 ∙ ap (λ (x : ℕ). take x (buffer_of d at r)) (sym k) ∙ before-place u
          ∙ ap (λ (x : List ℕ). x ++ bytes_of r) h ∙ ap (λ (x : List ℕ). take at s ++ x) y ∙ sym (take-add at n s) ∙ ap (λ (x : ℕ). take x s) (sym f.next);
    }

-- and the offset's record
offset-entered : (s d : List ℕ) (p q : Place) → Bytes s → read_at s p ≡ A.Offset q → length s ≤ length d → take p.at d ≡ take p.at s → Entered s d p.at q.at (E.Offset q.offset)
offset-entered s d p q b e w h =
    let at = p.at in
    let f = eqb at 0 in
    let l = drop at s in
    let z = q.offset in
    let y = offset-found s p q e in
    let o = at_offset f l z y.1 in
    let x = offset-write-back f l z (bytes_drop at s b) y.1 in
    let a : at ≡ 0 = eqb-true at 0 o.first_one in
    let g : at + 8 ≤ length s = omega (arith, o.size, length-drop at s) in
    let i : has_room at 8 (length d) ≡ true = rw (le-leb (at + 8) (length d) (omega (arith, g, w)), le-leb (at + 8) 65536 (omega (arith, a))) refl in
    let m : offset_may at z ≡ true = rw (eq-eqb at 0 a, o.allowed) refl in
    let t = stood (offset_may at z) d at 8 (offset_bytes z) m i in
    let k : at + 8 ≡ q.at = ap (λ (n : ℕ). n + 8) a ∙ sym y.2 in
    let u : Stands d at (offset_bytes z) (offset_buffer d at z) (at + 8) =
    record { next = ap (λ (n : ℕ). at + n) (sym (offset-length z)); within = omega (arith, g, w); whole = sym t.1 } in
    record {
      answer = sym t.0 ∙ ap Ok k;
      wide = rw (same_size u) w;
      ahead =
          ap (λ (n : ℕ). take n (offset_buffer d at z)) (sym k) ∙ before-place u
          ∙ ap (λ (v : List ℕ). v ++ offset_bytes z) h ∙ ap (λ (v : List ℕ). take at s ++ v) x ∙ sym (take-add at 8 s) ∙ ap (λ (n : ℕ). take n s) k;
    }

-- the end is where no byte is left
not_end : (d : Decoded) (p : Place) → placed d p ≡ A.End → ⊥
not_end (D.Whole r n) p e = let w : ◌≡◌ {A = ℕ} 0 1 = cc in let z : ⊥ = omega arith in z
not_end (D.Offset z) p e = let w : ◌≡◌ {A = ℕ} 0 1 = cc in let z : ⊥ = omega arith in z
not_end (D.Refused n) p e = let w : ◌≡◌ {A = ℕ} 0 1 = cc in let z : ⊥ = omega arith in z

only_end : (a b c d : Bool) (t p : Place) (x : Reading) → (x ≡ A.End → ⊥)
    → cond a (A.Refused Refusal.WrongLength t) (cond (not b) (A.Refused Refusal.NotAllowed p) (cond c (A.Refused Refusal.CutShort p) (cond d A.End x))) ≡ A.End → d ≡ true
only_end true b c d t p x n e = let w : ◌≡◌ {A = ℕ} 0 1 = cc in let z : ⊥ = omega arith in absurd z
only_end false false c d t p x n e = let w : ◌≡◌ {A = ℕ} 0 1 = cc in let z : ⊥ = omega arith in absurd z
only_end false true true d t p x n e = let w : ◌≡◌ {A = ℕ} 0 1 = cc in let z : ⊥ = omega arith in absurd z
only_end false true false true t p x n e = refl
only_end false true false false t p x n e = absurd (n e)

at-end : (s : List ℕ) (p : Place) → read_at s p ≡ A.End → p.at ≡ length s
at-end s p e =
    let x = decode_at (eqb p.at 0) (drop p.at s) in
    eqb-true p.at (length s) (only_end (ltb 65536 (length s)) (offset_allowed p.offset) (ltb (length s) p.at) (eqb p.at (length s)) start p (placed x p) (not_end x p) e)

-- ---- a whole session

-- the lines that are shown from a place to the end: of each record a comment, whatever it says, and its line
pub data Shown (s : List ℕ) : Place → List (List ℕ) → Type 0 where
  end : {p : Place} → read_at s p ≡ A.End → Shown s p []
  record_at_lem : {p q : Place} {r : Record} {c : List ℕ} {ls : List (List ℕ)} → read_at s p ≡ A.Record r q → Shown s q ls → Shown s p ((35 ∷ c) ∷ line_text r ∷ ls)
  offset_at : {p q : Place} {c : List ℕ} {ls : List (List ℕ)} → read_at s p ≡ A.Offset q → Shown s q ls → Shown s p ((35 ∷ c) ∷ offset_text q.offset ∷ ls)

-- no line was refused, the records end with the session, and up to there the buffer is the session
pub record Same {R : Type 0} (s : List ℕ) (t : Result Progress (EndedOf R)) (e : List ℕ) : Type 0 where
  pub count : ℕ
  pub turn : t ≡ Ok (record { at = length s; count = count })
  pub bytes : take (length s) e ≡ s

same_as_lem : {R : Type 0} {s : List ℕ} {t u : Result Progress (EndedOf R)} {e f : List ℕ} → t ≡ u → e ≡ f → Same s u f → Same s t e
same_as_lem {s = s} p q x = record { count = x.count; turn = p ∙ x.turn; bytes = ap (take (length s)) q ∙ x.bytes }

-- with anything in the place of a refusal
pub again-by : {R : Type 0} (given : Refusal → R) {s : List ℕ} {p : Place} {ls : List (List ℕ)} → Shown s p ls → Bytes s → (d : List ℕ) (k : ℕ)
    → length s ≤ length d → take p.at d ≡ take p.at s
    → Same s (progress_over_by given ls d (Ok (record { at = p.at; count = k }))) (written_over_by given ls d (Ok (record { at = p.at; count = k })))
again-by given {s} (end {p} e) b d k w h =
    let a = at-end s p e in
    let t = turns-none-by given d (Ok (record { at = p.at; count = k })) in
    same_as_lem (t.0 ∙ ap (λ (n : ℕ). Ok (record { at = n; count = k })) a) t.1
    (record { count = k; turn = refl; bytes = ap (λ (n : ℕ). take n d) (sym a) ∙ h ∙ ap (λ (n : ℕ). take n s) a ∙ take_all (length s) s (omega arith) })
again-by given {s} (record_at_lem {p} {q} {r} {c} {ls} e more) b d k w h =
    let f = found s p r q e in
    let g = decoded-allowed (drop p.at s) (bytes_drop p.at s b) r f.size f.whole in
    let x = record-entered s d p q r b e w h in
    let i = step given d (record { at = p.at; count = k }) (35 ∷ c) (line_text r ∷ ls) E.Nothing p.at d (comment-skipped c) refl refl in
    let j = step given d (record { at = p.at; count = one_more k }) (line_text r) ls (said_of r) q.at (entry_session d p.at (said_of r)) (retold r g.1 g.0) x.answer refl in
    same_as_lem (i.0 ∙ j.0) (i.1 ∙ j.1) (again-by given more b (entry_session d p.at (said_of r)) (one_more (one_more k)) x.wide x.ahead)
again-by given {s} (offset_at {p} {q} {c} {ls} e more) b d k w h =
    let z = q.offset in
    let y = at_offset (eqb p.at 0) (drop p.at s) z (offset-found s p q e).1 in
    let m : SFits w16 z = record { sfits = omega (arith, offset-small z y.allowed) } in
    let x = offset-entered s d p q b e w h in
    let i = step given d (record { at = p.at; count = k }) (35 ∷ c) (offset_text z ∷ ls) E.Nothing p.at d (comment-skipped c) refl refl in
    let j = step given d (record { at = p.at; count = one_more k }) (offset_text z) ls (E.Offset z) q.at (entry_session d p.at (E.Offset z)) (offset-retold z m) x.answer refl in
    same_as_lem (i.0 ∙ j.0) (i.1 ∙ j.1) (again-by given more b (entry_session d p.at (E.Offset z)) (one_more (one_more k)) x.wide x.ahead)

pub again : {s : List ℕ} {p : Place} {ls : List (List ℕ)} → Shown s p ls → Bytes s → (d : List ℕ) (k : ℕ) → length s ≤ length d → take p.at d ≡ take p.at s
    → Same s (progress_over ls d (Ok (record { at = p.at; count = k }))) (written_by ls d (Ok (record { at = p.at; count = k })))
unfolding progress_over written_by
again x b d k w h = again-by (λ r. r) x b d k w h
