-- The document's listing, whole, and the same by a local clock; an unknown kind; an empty session; and every session that is too long. Assumes nothing.
use Rattle.refusal.specs.declared.Refusal.TheVariants as Refusal
use Prim.Native.Nat.{ℕ, ◌<◌}
use mathlib.Core.Path.{◌≡◌, refl, ap, ◌∙◌}
use mathlib.Core.List.{List, [], ◌∷◌, ◌++◌, append-nil}
use lib.ListN.{length}
use lib.Ieee.{of_bits}
use borrow.Author.Tests.{lt-ltb}
use Rattle.session.specs.declared.Reading.{Reading}
use Rattle.session.specs.declared.Reading.TheVariants.{Refused}
use Rattle.session.specs.Layout.{numbers_from, all_finite}
use Rattle.session.specs.Read.{start, read_at}
use Rattle.session.proofs.Examples.{burn}
use Rattle.text.specs.Text.{ascii, digits}
use Rattle.text.specs.Pieces.{concat}
use Rattle.lines.specs.Lines.{heading_text, clock_pieces, stamp_pieces, refused_pieces, refused_text}
use Rattle.report.specs.declared.Next.TheVariants.{Heading, At}
use Rattle.report.specs.Listing.{step_for, steps_in, steps_from, text_of, listing_of}
use Rattle.report.proofs.Whole.{line-by-line, nothing_left}

pub burn-listing : listing_of burn ≡ ascii "day cs vehicle kind\n0 64 1 burn\n"
unfolding text_of steps_in all_finite numbers_from of_bits concat clock_pieces stamp_pieces digits
burn-listing = refl

pub unknown-kind : listing_of (38 ∷ 0 ∷ 5 ∷ 0 ∷ []) ≡ ascii "day cs vehicle kind\nrefused 13 at 0\n"
unfolding text_of steps_in concat refused_pieces digits
unknown-kind = refl

-- one minute behind UTC, the burn falls on the day before
pub night-listing : listing_of (8 ∷ 0 ∷ 4 ∷ 0 ∷ 255 ∷ 255 ∷ 0 ∷ 0 ∷ burn) ≡ ascii "day cs vehicle kind\n-1 8634064 1 burn\n"
unfolding text_of steps_in all_finite numbers_from of_bits concat clock_pieces stamp_pieces digits
night-listing = refl

pub no_record : listing_of [] ≡ heading_text
unfolding text_of steps_in
no_record = refl

-- `refused 12 at 0`
pub too_long : (s : List ℕ) → 65536 < length s → listing_of s ≡ heading_text ++ refused_text 12 0
too_long s h =
    let r : read_at s start ≡ Refused Refusal.WrongLength start = rw (lt-ltb 65536 (length s) h) refl in
    line-by-line s Heading refl
    ∙ ap (λ (l : List ℕ). heading_text ++ l)
    (line-by-line s (At start) refl
    ∙ ap (λ (a : Reading). (step_for a).line ++ text_of (steps_from s (step_for a).next)) r
    ∙ ap (λ (l : List ℕ). refused_text 12 0 ++ l) (nothing_left s) ∙ append-nil (refused_text 12 0))
