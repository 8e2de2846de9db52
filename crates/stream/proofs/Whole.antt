-- Reading whole, record by record. Assumes nothing.
use Rattle.refusal.specs.declared.Refusal.{Refusal}
use Rattle.refusal.specs.Refusals.{number_of}
use Prim.Native.Nat.{ℕ, zero, suc, ◌≤◌, ◌<◌}
use native.Mathlib.Omega.{arith}
use mathlib.Core.Path.{◌≡◌, refl, sym, ap, ◌∙◌}
use mathlib.Core.List.{List}
use lib.ListN.{length, drop, length-drop}
use lib.Dec.{eqb}
use lib.IntN.{ℤ}
use Rattle.session.specs.declared.record.Record.{Record}
use Rattle.session.specs.declared.record.Decoded.{Decoded}
use Rattle.session.specs.declared.record.Decoded.TheVariants.{Whole, Offset, Refused}
use Rattle.session.specs.declared.Place.{Place}
use Rattle.session.specs.declared.Reading.TheVariants as A
use Rattle.session.proofs.Heads.{whole-fits}
use Rattle.session.proofs.Offsets.{at-whole, at_offset}
use Rattle.stream.specs.Stream.{stop, with_reading, ending_of, past, found_at, run_in, whole_from}

-- a record that was found lies within the bytes
pub found-fits : (p : Place) (s : List ℕ) (r : Record) (n : ℕ) → found_at p s ≡ Whole r n → (30 ≤ n) × (n ≤ length s)
found-fits p s r n e = whole-fits s r n (at-whole (eqb p.at 0) s r n e)

pub offset-fits : (p : Place) (s : List ℕ) (z : ℤ) → found_at p s ≡ Offset z → 8 ≤ length s
offset-fits p s z e = (at_offset (eqb p.at 0) s z e).size

-- the number that lets `run_in` end is harmless: over the number of bytes, all do the same
pub enough : (f g : ℕ) (d : Decoded) (p : Place) (s : List ℕ) → d ≡ found_at p s → length s < f → length s < g → run_in f d p s ≡ run_in g d p s
unfolding run_in
enough zero g d p s q h k = let w : ⊥ = omega arith in absurd w
enough (suc f) zero d p s q h k = let w : ⊥ = omega arith in absurd w
enough (suc f) (suc g) (Whole r n) p s q h k =
    let w = found-fits p s r n (sym q) in
    let l = length-drop n s in
    ap (with_reading (A.Record r (past p n))) (enough f g (found_at (past p n) (drop n s)) (past p n) (drop n s) refl (omega (arith, w.0, w.1, l)) (omega (arith, w.0, w.1, l)))
enough (suc f) (suc g) (Offset z) p s q h k =
    let w = offset-fits p s z (sym q) in
    let l = length-drop 8 s in
    let o : Place = record { at = 8; offset = z } in
    ap (with_reading (A.Offset o)) (enough f g (found_at o (drop 8 s)) o (drop 8 s) refl (omega (arith, w, l)) (omega (arith, w, l)))
enough (suc f) (suc g) (Refused n) p s q h k = refl

-- a record, and what is behind it
pub whole-record : (p : Place) (s : List ℕ) (r : Record) (n : ℕ) → found_at p s ≡ Whole r n
    → whole_from p s ≡ with_reading (A.Record r (past p n)) (whole_from (past p n) (drop n s))
unfolding run_in
whole-record p s r n e =
    let w = found-fits p s r n e in
    let l = length-drop n s in
    let m : length (drop n s) < length s = omega (arith, w.0, w.1, l) in
    ap (λ (d : Decoded). run_in (suc (length s)) d p s) e
    ∙ ap (with_reading (A.Record r (past p n))) (enough (length s) (suc (length (drop n s))) (found_at (past p n) (drop n s)) (past p n) (drop n s) refl m (omega arith))

pub whole-offset : (p q : Place) (s : List ℕ) → q.at ≡ 8 → found_at p s ≡ Offset q.offset
    → whole_from p s ≡ with_reading (A.Offset q) (whole_from q (drop 8 s))
unfolding run_in
whole-offset p q s t e =
    let w = offset-fits p s q.offset e in
    let l = length-drop 8 s in
    let m : length (drop 8 s) < length s = omega (arith, w, l) in
    let o : Place = record { at = 8; offset = q.offset } in
    let u : o ≡ q = ap (λ (a : ℕ). record { at = a; offset = q.offset }) (sym t) in
    ap (λ (d : Decoded). run_in (suc (length s)) d p s) e
    ∙ ap (with_reading (A.Offset o)) (enough (length s) (suc (length (drop 8 s))) (found_at o (drop 8 s)) o (drop 8 s) refl m (omega arith))
    ∙ ap (λ (a : Place). with_reading (A.Offset a) (whole_from a (drop 8 s))) u

pub whole-refused : (p : Place) (s : List ℕ) (n : Refusal) → found_at p s ≡ Refused n → whole_from p s ≡ stop (ending_of s (number_of n) p.at)
unfolding run_in
whole-refused p s n e = ap (λ (d : Decoded). run_in (suc (length s)) d p s) e
