-- A record that is cut short: it has under 62 bytes, and the whole record is longer than what is there. Assumes nothing.
use Rattle.std.specs.Prelude.{Err, None, Ok, Option, Result, Some}
use Rattle.refusal.specs.declared.Refusal.{Refusal}
use Rattle.refusal.specs.Refusals.{number_of}
use Prim.Native.Nat.{ℕ, ◌≤◌, ◌<◌}
use native.Mathlib.Omega.{arith}
use mathlib.Core.Path.{◌≡◌, refl, sym, ap, ◌∙◌}
use mathlib.Core.List.{List, ◌++◌}
use mathlib.Core.Bool.{Bool, true, false, cond, not}
use lib.ListN.{length}
use lib.Dec.{ltb, leb, eqb, lit≤}
use lib.IntN.{ℤ}
use borrow.Author.Tests.{ltb-true, ltb-false, leb-true, eqb-true}
use Rattle.facts.proofs.Truth.{each}
use Rattle.session.specs.declared.record.Kind.{Kind}
use Rattle.session.specs.declared.record.Kind.TheVariants.{State, Burn, Mark}
use Rattle.session.specs.declared.record.Record.{Record}
use Rattle.session.specs.declared.record.Decoded.TheVariants.{Whole, Offset, Refused}
use Rattle.field.specs.Bytes.{field}
use Rattle.session.specs.Kinds.{kind_of, record_length, kind_number}
use Rattle.session.specs.Decode.{allowed_at, judged, head_of, decoded, decode_of}
use Rattle.session.specs.Offset.{is_offset, minutes_at, good_offset, offset_of, decode_at}
use Rattle.session.proofs.Table.{kind_number_lem}
use Rattle.session.proofs.Heads.{good-kind, whole-fits}
use Rattle.session.proofs.Offsets.{at-whole, at_offset}
use Rattle.session.proofs.Stable.{field-more}

-- only one refusal has the number 11
pub cut_number : (n : Refusal) → number_of n ≡ 11 → n ≡ Refusal.CutShort
cut_number Refusal.NotFinite e = absurd (omega arith)
cut_number Refusal.MuOutOfRange e = absurd (omega arith)
cut_number Refusal.PositionOutOfRange e = absurd (omega arith)
cut_number Refusal.VelocityOutOfRange e = absurd (omega arith)
cut_number Refusal.TimeOutOfRange e = absurd (omega arith)
cut_number Refusal.DerivedOutOfRange e = absurd (omega arith)
cut_number Refusal.TooLong e = absurd (omega arith)
cut_number Refusal.TooShort e = absurd (omega arith)
cut_number Refusal.ResultOutOfRange e = absurd (omega arith)
cut_number Refusal.AngleTooSmall e = absurd (omega arith)
cut_number Refusal.CutShort e = refl
cut_number Refusal.WrongLength e = absurd (omega arith)
cut_number Refusal.UnknownKind e = absurd (omega arith)
cut_number Refusal.NotAllowed e = absurd (omega arith)
cut_number Refusal.NoRoom e = absurd (omega arith)
cut_number Refusal.ElevationOutOfRange e = absurd (omega arith)
cut_number Refusal.NotUnit e = absurd (omega arith)
cut_number Refusal.NoCrossing e = absurd (omega arith)
cut_number Refusal.StraightFall e = absurd (omega arith)
cut_number Refusal.NotSet e = absurd (omega arith)
cut_number Refusal.TwoBodies e = absurd (omega arith)
cut_number Refusal.SettingOutOfRange e = absurd (omega arith)
cut_number Refusal.NoVersion e = absurd (omega arith)
cut_number Refusal.NoVersionLeft e = absurd (omega arith)
cut_number Refusal.TooSoon e = absurd (omega arith)
cut_number Refusal.NoOrbit e = absurd (omega arith)
cut_number Refusal.NoSpeed e = absurd (omega arith)
cut_number Refusal.TooLow e = absurd (omega arith)
cut_number Refusal.NotFinished e = absurd (omega arith)
cut_number Refusal.NoSettings e = absurd (omega arith)

-- no record is longer than a state
at_most : (k : Kind) → record_length k ≤ 62
at_most State = lit≤ tt
at_most Burn = lit≤ tt
at_most Mark = lit≤ tt

-- no kind of the table is 4
not-four : (k : Kind) → kind_number k ≤ 3
not-four State = lit≤ tt
not-four Burn = lit≤ tt
not-four Mark = lit≤ tt

-- What 11 says, and no more: the header is not there; or it is of a known kind and has its length, and bytes of the
-- record are to come; or so for the offset's record. With four bytes a wrong length and an unknown kind are certain, and
-- with the whole record nothing waits.
pub data Eleven (s : List ℕ) : Type 0 where
  tiny : length s < 4 → Eleven s
  cut : (k : Kind) → 4 ≤ length s → kind_of (field 2 2 s) ≡ Some k → field 0 2 s ≡ record_length k → length s < record_length k → Eleven s
  set : 4 ≤ length s → field 2 2 s ≡ 4 → field 0 2 s ≡ 8 → length s < 8 → Eleven s

by_tests : (e l a : Bool) (k : Kind) → cond (not e) (Err Refusal.WrongLength) (cond l (Err Refusal.CutShort) (cond a (Ok k) (Err Refusal.NotAllowed))) ≡ Err Refusal.CutShort → (e ≡ true) × (l ≡ true)
by_tests false l a k p = absurd (cc)
by_tests true true a k p = (refl, refl)
by_tests true false true k p = absurd (cc)
by_tests true false false k p = absurd (cc)

by-found : (s : List ℕ) (f : Option Kind) → f ≡ kind_of (field 2 2 s) → 4 ≤ length s → judged f s ≡ Err Refusal.CutShort → Eleven s
by-found s None q h p = absurd (cc)
by-found s (Some k) q h p =
    let t = by_tests (eqb (field 0 2 s) (record_length k)) (ltb (length s) (record_length k)) (allowed_at k s) k p in
    cut k h (sym q) (eqb-true (field 0 2 s) (record_length k) t.0) (ltb-true (length s) (record_length k) t.1)

by_front : (s : List ℕ) (a b : Bool) → ltb (length s) 4 ≡ a
    → cond a (Err Refusal.CutShort) (cond b (Err Refusal.WrongLength) (judged (kind_of (field 2 2 s)) s)) ≡ Err Refusal.CutShort → Eleven s
by_front s true b q p = tiny (ltb-true (length s) 4 q)
by_front s false true q p = absurd (cc)
by_front s false false q p = by-found s (kind_of (field 2 2 s)) refl (ltb-false (length s) 4 q) p

by-head : (h : Result Kind Refusal) (s : List ℕ) → decoded h s ≡ Refused Refusal.CutShort → h ≡ Err Refusal.CutShort
by-head (Ok k) s p = absurd (cc)
by-head (Err n) s p = let e : n ≡ Refusal.CutShort = cc in ap Err e

-- the offset's record
by_size : (e l g : Bool) (z : ℤ) → cond (not e) (Refused Refusal.WrongLength) (cond l (Refused Refusal.CutShort) (cond g (Offset z) (Refused Refusal.NotAllowed))) ≡ Refused Refusal.CutShort → (e ≡ true) × (l ≡ true)
by_size false l g z p = absurd (cc)
by_size true true g z p = (refl, refl)
by_size true false true z p = absurd (cc)
by_size true false false z p = absurd (cc)

by_kind : (b first : Bool) (s : List ℕ) → is_offset s ≡ b → cond b (offset_of first s) (decode_of s) ≡ Refused Refusal.CutShort → Eleven s
by_kind true first s i p =
    let k = each (leb 4 (length s)) (eqb (field 2 2 s) 4) i in
    let t = by_size (eqb (field 0 2 s) 8) (ltb (length s) 8) (good_offset first s) (minutes_at s) p in
    set (leb-true 4 (length s) k.0) (eqb-true (field 2 2 s) 4 k.1) (eqb-true (field 0 2 s) 8 t.0) (ltb-true (length s) 8 t.1)
by_kind false first s i p = by_front s (ltb (length s) 4) (ltb (field 0 2 s) 4) refl (by-head (head_of s) s p)

pub eleven : (first : Bool) (s : List ℕ) → decode_at first s ≡ Refused Refusal.CutShort → Eleven s
eleven first s p = by_kind (is_offset s) first s refl p

short_by_lem : {s : List ℕ} → Eleven s → length s < 62
short_by_lem (tiny h) = omega arith
short_by_lem (cut k h q e l) = omega (arith, at_most k, l)
short_by_lem (set h k e l) = omega (arith, l)

pub short : (first : Bool) (s : List ℕ) → decode_at first s ≡ Refused Refusal.CutShort → length s < 62
short first s p = short_by_lem (eleven first s p)

kind_in_lem : (h : Result Kind Refusal) (s : List ℕ) (r : Record) (n : ℕ) → h ≡ head_of s → decoded h s ≡ Whole r n
    → (k : Kind) × (n ≡ record_length k) × (kind_of (field 2 2 s) ≡ Some k)
kind_in_lem (Ok k) s r n q p = let e : record_length k ≡ n = cc in (k, sym e, good-kind s k (sym q))
kind_in_lem (Err x) s r n q p = absurd (cc)

record-by : (s t : List ℕ) (r : Record) (n : ℕ) → decode_of (s ++ t) ≡ Whole r n → Eleven s → length s < n
record-by s t r n p (tiny h) = omega (arith, (whole-fits (s ++ t) r n p).0)
record-by s t r n p (cut k h q i l) =
    let x = kind_in_lem (head_of (s ++ t)) (s ++ t) r n refl p in
    let e : Some k ≡ Some x.0 = sym q ∙ ap kind_of (sym (field-more s t 2 2 h)) ∙ x.2 in
    let f : k ≡ x.0 = cc in
    omega (arith, l, ap record_length f, x.1)
record-by s t r n p (set h k e l) = omega (arith, l, (whole-fits (s ++ t) r n p).0)

offset_by_lem : (s t : List ℕ) → field 2 2 (s ++ t) ≡ 4 → Eleven s → length s < 8
offset_by_lem s t p (tiny h) = omega arith
offset_by_lem s t p (cut k h q i l) =
    let e = kind_number_lem (field 2 2 s) k q in
    let w : ⊥ = omega (arith, e, not-four k, field-more s t 2 2 h, p) in absurd w
offset_by_lem s t p (set h k e l) = l

-- the record that bytes behind it make whole ends behind what was there
pub record-past : (first : Bool) (s t : List ℕ) (r : Record) (n : ℕ) → decode_at first s ≡ Refused Refusal.CutShort → decode_at first (s ++ t) ≡ Whole r n → length s < n
record-past first s t r n q p = record-by s t r n (at-whole first (s ++ t) r n p) (eleven first s q)

pub offset-past : (first : Bool) (s t : List ℕ) (z : ℤ) → decode_at first s ≡ Refused Refusal.CutShort → decode_at first (s ++ t) ≡ Offset z → length s < 8
offset-past first s t z q p = offset_by_lem s t (at_offset first (s ++ t) z p).kind-field (eleven first s q)
