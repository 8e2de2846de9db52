-- Reading whole is what the session's reader does from place to place, where its limit lets it. Assumes nothing.
use Rattle.refusal.specs.declared.Refusal.{Refusal}
use Rattle.refusal.specs.Refusals.{number_of}
use Prim.Native.Nat.{ℕ, ◌+◌, ◌-◌, ◌≤◌, ◌<◌}
use native.Mathlib.Omega.{arith}
use mathlib.Core.Path.{◌≡◌, refl, sym, ap, ◌∙◌}
use mathlib.Core.List.{List, [], ◌∷◌}
use mathlib.Core.Bool.{Bool, true, false, cond, not}
use lib.ListN.{length, drop, length-drop}
use lib.Seq.{drop-drop}
use lib.Dec.{ltb, eqb}
use borrow.Author.Tests.{le-ltb, eqb-true, eqb-false}
use Rattle.session.specs.declared.record.Decoded.{Decoded}
use Rattle.session.specs.declared.record.Decoded.TheVariants as D
use Rattle.session.specs.declared.Place.{Place}
use Rattle.session.specs.declared.Reading.{Reading}
use Rattle.session.specs.declared.Reading.TheVariants.{Record, Offset, End, Refused}
use Rattle.session.specs.Limits.{offset_allowed}
use Rattle.session.specs.Read.{start, placed, read_at}
use Rattle.session.proofs.Offsets.{at_offset}
use Rattle.stream.specs.Stream.{Run, ended, refused, stop, with_reading, ending_of, past, found_at, whole_from}
use Rattle.stream.proofs.Whole.{whole-record, whole-offset, whole-refused}

-- what is whole from a place on, by what is read there
abbrev pub go_on : List ℕ → Reading → Run
go_on s (Record r q) = with_reading (Record r q) (whole_from q (drop q.at s))
go_on s (Offset q) = with_reading (Offset q) (whole_from q (drop q.at s))
go_on s End = stop ended
go_on s (Refused n q) = stop (refused (number_of n) q.at)

full : (l : List ℕ) (n at : ℕ) → 0 < length l → ending_of l n at ≡ refused n at
full [] n at h = let w : ⊥ = omega arith in absurd w
full (b ∷ l) n at h = refl

none_left : (p : Place) (l : List ℕ) → length l ≤ 0 → whole_from p l ≡ stop ended
none_left p [] h = whole-refused p [] Refusal.CutShort refl
none_left p (b ∷ l) h = let w : ⊥ = omega arith in absurd w

apart : (a b : ℕ) → a ≤ b → (a ≡ b → ⊥) → 0 < b - a
apart a b h n = omega (arith, n)

module _ (s : List ℕ) (p : Place) where
  by-decoded : (d : Decoded) → found_at p (drop p.at s) ≡ d → 0 < length (drop p.at s) → whole_from p (drop p.at s) ≡ go_on s (placed d p)
  by-decoded (D.Whole r n) e h =
      whole-record p (drop p.at s) r n e ∙ ap (λ (l : List ℕ). with_reading (Record r (past p n)) (whole_from (past p n) l)) (drop-drop n p.at s)
  by-decoded (D.Offset z) e h =
      let q : Place = record { at = 8; offset = z } in
      let a : p.at ≡ 0 = eqb-true p.at 0 (at_offset (eqb p.at 0) (drop p.at s) z e).first_one in
      let b : p.at + 8 ≡ 8 = omega (arith, a) in
      whole-offset p q (drop p.at s) refl e
      ∙ ap (λ (l : List ℕ). with_reading (Offset q) (whole_from q l)) (drop-drop 8 p.at s ∙ ap (λ (j : ℕ). drop j s) b)
  by-decoded (D.Refused n) e h = whole-refused p (drop p.at s) n e ∙ ap stop (full (drop p.at s) (number_of n) p.at h)

  by_end : (b : Bool) → eqb p.at (length s) ≡ b → p.at ≤ length s
      → whole_from p (drop p.at s) ≡ go_on s (cond b End (placed (found_at p (drop p.at s)) p))
  by_end true e h = none_left p (drop p.at s) (omega (arith, length-drop p.at s, eqb-true p.at (length s) e))
  by_end false e h =
      let n = eqb-false p.at (length s) e in
      by-decoded (found_at p (drop p.at s)) refl (rw (length-drop p.at s) (apart p.at (length s) h n))

  pub read_whole : length s ≤ 65536 → offset_allowed p.offset ≡ true → p.at ≤ length s → whole_from p (drop p.at s) ≡ go_on s (read_at s p)
  read_whole l o h =
      let x = cond (eqb p.at (length s)) End (placed (found_at p (drop p.at s)) p) in
      by_end (eqb p.at (length s)) refl h
      ∙ ap (λ (b : Bool). go_on s (cond b (Refused Refusal.CutShort p) x)) (sym (le-ltb (length s) p.at h))
      ∙ ap (λ (b : Bool). go_on s (cond (not b) (Refused Refusal.NotAllowed p) (cond (ltb (length s) p.at) (Refused Refusal.CutShort p) x))) (sym o)
      ∙ ap (λ (b : Bool). go_on s (cond b (Refused Refusal.WrongLength start) (cond (not (offset_allowed p.offset)) (Refused Refusal.NotAllowed p) (cond (ltb (length s) p.at) (Refused Refusal.CutShort p) x)))) (sym (le-ltb 65536 (length s) l))
