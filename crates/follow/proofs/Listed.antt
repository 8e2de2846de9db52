-- Up to 65,536 bytes, what is listed as it comes is the listing. Assumes nothing.
use Rattle.std.specs.Prelude.{Result}
use Rattle.refusal.specs.declared.Refusal.{Refusal}
use Prim.Native.Nat.{ℕ, zero, suc, ◌-◌, ◌≤◌, ◌<◌, zero-le}
use native.Mathlib.Omega.{arith}
use mathlib.Core.Path.{◌≡◌, refl, sym, ap, ◌∙◌}
use mathlib.Core.List.{List, [], ◌++◌, append_assoc, append-nil}
use mathlib.Core.Bool.{Bool, true, false, cond}
use lib.ListN.{length, drop}
use lib.Dec.{ltb}
use Rattle.text.specs.Pieces.{concat}
use Rattle.session.specs.declared.Place.{Place}
use Rattle.session.specs.declared.Reading.{Reading}
use Rattle.session.specs.declared.Reading.TheVariants.{Record, Offset, End, Refused}
use Rattle.session.specs.Limits.{offset_allowed}
use Rattle.session.specs.Read.{start, read_at}
use Rattle.session.proofs.Progress.{by-record, by-offset, progress}
use Rattle.text.specs.Text.{InFront}
use Rattle.lines.specs.Lines.{line_room, heading_text}
use Rattle.report.specs.declared.Next.TheVariants.{Heading, At}
use Rattle.report.specs.Listing.{step_for, steps_from, text_of, listing_of}
use Rattle.report.proofs.Whole.{line-by-line, nothing_left}
use Rattle.stream.specs.declared.Standing.TheVariants.{Open}
use Rattle.stream.specs.Stream.{Ending, Run, with_reading, most_bytes, whole_from}
use Rattle.stream.specs.Calls.{Session}
use Rattle.stream.proofs.Places.{go_on, read_whole}
use Rattle.stream.proofs.Calls.{reads_whole}
use Rattle.follow.specs.Follow.{no_line, reading_text, readings_text, ending_text, run_text, watch_of}

-- a line of no bytes
empty-by : (b : Bool) (d : List ℕ) → d ≡ cond b d ([] ++ drop 0 d)
empty-by true d = refl
empty-by false d = refl

pub empty-line : (d : List ℕ) (r : Result ℕ Refusal) → r ≡ no_line d → InFront line_room [] d d r
empty-line d r e = record { answer = e; buffer = empty-by (ltb (length d) line_room) d }

-- a reading ahead of a run
ahead : (a : Reading) (x : Run) → run_text (with_reading a x) ≡ reading_text a ++ run_text x
unfolding readings_text
ahead a x = append_assoc (reading_text a) (readings_text x.readings) (ending_text x.ending)

module _ (s : List ℕ) (short : length s ≤ 65536) where
  -- what the listing has from a place on, by what is read there
  by-reading : (p : Place) (a : Reading) → read_at s p ≡ a → text_of (steps_from s (At p)) ≡ (step_for a).line ++ text_of (steps_from s (step_for a).next)
  by-reading p a e = line-by-line s (At p) refl ∙ ap (λ (b : Reading). (step_for b).line ++ text_of (steps_from s (step_for b).next)) e

  -- from a place on, if it is so from each place behind it
  abbrev From : Place → Type 0
  From p = run_text (whole_from p (drop p.at s)) ≡ text_of (steps_from s (At p))

  from-by : (p : Place) (a : Reading) → read_at s p ≡ a → ((q : Place) → p.at < q.at → q.at ≤ length s → offset_allowed q.offset ≡ true → From q)
      → run_text (go_on s a) ≡ text_of (steps_from s (At p))
  unfolding readings_text
  from-by p (Record r q) e g =
      let b = progress s p q (rw e by-record) in
      ahead (Record r q) (whole_from q (drop q.at s))
      ∙ ap (λ (x : List ℕ). reading_text (Record r q) ++ x) (g q b.further b.inside b.allowed)
      ∙ sym (by-reading p (Record r q) e)
  from-by p (Offset q) e g =
      let b = progress s p q (rw e by-offset) in
      ahead (Offset q) (whole_from q (drop q.at s))
      ∙ ap (λ (x : List ℕ). reading_text (Offset q) ++ x) (g q b.further b.inside b.allowed)
      ∙ sym (by-reading p (Offset q) e)
  from-by p End e g = sym (by-reading p End e ∙ nothing_left s)
  from-by p (Refused n q) e g =
      sym (by-reading p (Refused n q) e ∙ ap (λ (x : List ℕ). (step_for (Refused n q)).line ++ x) (nothing_left s) ∙ append-nil (step_for (Refused n q)).line)

  from_in : (f : ℕ) (p : Place) → length s - p.at < f → p.at ≤ length s → offset_allowed p.offset ≡ true → From p
  from_in zero p l h o = let w : ⊥ = omega arith in absurd w
  from_in (suc f) p l h o =
      ap run_text (read_whole s p short o h)
      ∙ from-by p (read_at s p) refl (λ (q : Place) (m : p.at < q.at) (i : q.at ≤ length s) (k : offset_allowed q.offset ≡ true). from_in f q (omega (arith, m, i)) i k)

  pub as-listed : watch_of s ≡ listing_of s
  as-listed =
      ap (λ (x : List ℕ). heading_text ++ x) (from_in (suc (length s)) start (omega arith) zero-le refl)
      ∙ sym (line-by-line s Heading refl)

-- the lines of any calls, from the start and with a room of 62 bytes: those of the whole, and of its listing where that is
-- short enough
pub writes-whole : {d : List ℕ} {ps : List (List ℕ)} {xs : List Reading} {w : Ending} → 62 ≤ length d → Session (Open start 0) d ps xs w
    → length (concat ps) ≤ most_bytes → heading_text ++ (readings_text xs ++ ending_text w) ≡ watch_of (concat ps)
writes-whole r c h = ap (λ (x : Run). heading_text ++ run_text x) (reads_whole r c h)
