-- A session without an offset's record and with no time over 2^53 is read as document 01 says. Assumes nothing.
use Rattle.std.specs.Prelude.{Err, None, Ok, Option, Result, Some}
use Rattle.refusal.specs.declared.Refusal.{Refusal}
use Prim.Native.Nat.{ℕ}
use mathlib.Core.Path.{◌≡◌, refl, sym, ap, ◌∙◌}
use mathlib.Core.List.{List}
use mathlib.Core.Bool.{Bool, true, false, cond, not, ◌&&◌}
use lib.ListN.{length, drop}
use lib.Dec.{ltb, leb, eqb}
use lib.IntN.{pos}
use Rattle.session.specs.declared.record.Kind.{Kind}
use Rattle.session.specs.declared.record.Kind.TheVariants.{State, Burn, Mark}
use Rattle.session.specs.declared.record.Record.{Record}
use Rattle.session.specs.declared.record.Decoded.{Decoded}
use Rattle.session.specs.declared.record.Decoded.TheVariants.{Whole}
use Rattle.session.specs.declared.Reading.{Reading}
use Rattle.session.specs.declared.Reading.TheVariants as A
use Rattle.session.specs.declared.Reading.TheVariants.{End, Refused}
use Rattle.session.specs.declared.Place.{Place}
use Rattle.field.specs.Bytes.{field}
use Rattle.session.specs.Limits.{time_allowed}
use Rattle.session.specs.Kinds.{kind_of, record_length, count_of, top_of}
use Rattle.session.specs.Layout.{vehicle_at, byte_at, time_at, numbers_from, all_finite, record_at, time_in}
use Rattle.session.specs.Decode.{judged, decoded, decode_of}
use Rattle.session.specs.Offset.{is_offset, offset_of}
use Rattle.session.specs.Read.{start, placed, read_at}

-- the reader of 01: any time, no kind 4, no offset
abbrev pub allowed-01 : Kind → List ℕ → Bool
allowed-01 k s = leb (vehicle_at s) 1 && leb (byte_at s) (top_of k) && all_finite (numbers_from 0 (count_of k) s)

abbrev pub judged-01 : Option Kind → List ℕ → Result Kind Refusal
judged-01 None s = Err Refusal.UnknownKind
judged-01 (Some k) s =
    cond (not (eqb (field 0 2 s) (record_length k))) (Err Refusal.WrongLength)
    (cond (ltb (length s) (record_length k)) (Err Refusal.CutShort) (cond (allowed-01 k s) (Ok k) (Err Refusal.NotAllowed)))

abbrev pub head-01 : List ℕ → Result Kind Refusal
head-01 s = cond (ltb (length s) 4) (Err Refusal.CutShort) (cond (ltb (field 0 2 s) 4) (Err Refusal.WrongLength) (judged-01 (kind_of (field 2 2 s)) s))

abbrev pub decode-01 : List ℕ → Decoded
decode-01 s = decoded (head-01 s) s

abbrev pub read-01 : List ℕ → ℕ → Reading
read-01 s at =
    cond (ltb 65536 (length s)) (Refused Refusal.WrongLength start)
    (cond (ltb (length s) at) (Refused Refusal.CutShort (record { at = at; offset = pos 0 }))
    (cond (eqb at (length s)) End (placed (decode-01 (drop at s)) (record { at = at; offset = pos 0 }))))

-- the time is tested of what passes all else
chain : (a b x t f : Bool) (k : Kind) → (cond a (Err Refusal.WrongLength) (cond b (Err Refusal.CutShort) (cond (x && f) (Ok k) (Err Refusal.NotAllowed))) ≡ Ok k → t ≡ true)
    → cond a (Err Refusal.WrongLength) (cond b (Err Refusal.CutShort) (cond (x && t && f) (Ok k) (Err Refusal.NotAllowed))) ≡ cond a (Err Refusal.WrongLength) (cond b (Err Refusal.CutShort) (cond (x && f) (Ok k) (Err Refusal.NotAllowed)))
chain true b x t f k h = refl
chain false true x t f k h = refl
chain false false false t f k h = refl
chain false false true t true k h = ap (λ (y : Bool). cond (y && true) (Ok k) (Err Refusal.NotAllowed)) (h refl)
chain false false true true false k h = refl
chain false false true false false k h = refl

same-judged : (f : Option Kind) (s : List ℕ) → ((k : Kind) → judged-01 f s ≡ Ok k → time_allowed (time_at s) ≡ true) → judged f s ≡ judged-01 f s
same-judged None s h = refl
same-judged (Some k) s h =
    chain (not (eqb (field 0 2 s) (record_length k))) (ltb (length s) (record_length k)) (leb (vehicle_at s) 1 && leb (byte_at s) (top_of k)) (time_allowed (time_at s)) (all_finite (numbers_from 0 (count_of k) s)) k (h k)

same-front : (a b : Bool) (f : Option Kind) (s : List ℕ) → ((k : Kind) → cond a (Err Refusal.CutShort) (cond b (Err Refusal.WrongLength) (judged-01 f s)) ≡ Ok k → time_allowed (time_at s) ≡ true)
    → cond a (Err Refusal.CutShort) (cond b (Err Refusal.WrongLength) (judged f s)) ≡ cond a (Err Refusal.CutShort) (cond b (Err Refusal.WrongLength) (judged-01 f s))
same-front true b f s h = refl
same-front false true f s h = refl
same-front false false f s h = same-judged f s h

time-own : (k : Kind) (s : List ℕ) → time_in (record_at k s) ≡ time_at s
time-own State s = refl
time-own Burn s = refl
time-own Mark s = refl

-- a record that 01 reads has a time of at most 2^53 in size
abbrev pub Timely : List ℕ → Type 0
Timely s = (r : Record) (n : ℕ) → decode-01 s ≡ Whole r n → time_allowed (time_in r) ≡ true

same-decoded : (s : List ℕ) → Timely s → decode_of s ≡ decode-01 s
same-decoded s h =
    ap (λ (x : Result Kind Refusal). decoded x s)
    (same-front (ltb (length s) 4) (ltb (field 0 2 s) 4) (kind_of (field 2 2 s)) s
    (λ (k : Kind) (e : head-01 s ≡ Ok k). sym (ap time_allowed (time-own k s)) ∙ h (record_at k s) (record_length k) (ap (λ (x : Result Kind Refusal). decoded x s) e)))

pub as_before : (s : List ℕ) (at : ℕ) → is_offset (drop at s) ≡ false → Timely (drop at s)
    → read_at s (record { at = at; offset = pos 0 }) ≡ read-01 s at
as_before s at k h =
    ap (λ (d : Decoded). cond (ltb 65536 (length s)) (Refused Refusal.WrongLength start) (cond (ltb (length s) at) (Refused Refusal.CutShort (record { at = at; offset = pos 0 })) (cond (eqb at (length s)) End (placed d (record { at = at; offset = pos 0 })))))
    (ap (λ (b : Bool). cond b (offset_of (eqb at 0) (drop at s)) (decode_of (drop at s))) k ∙ same-decoded (drop at s) h)

-- what 01 reads: no offset's record, and the offset stays 0
abbrev pub Plain : Reading → Type 0
Plain (A.Record r q) = q.offset ≡ pos 0
Plain (A.Offset q) = ⊥
Plain End = Unit {0}
Plain (Refused n q) = Unit {0}

plain-decoded : (h : Result Kind Refusal) (s : List ℕ) (at : ℕ) → Plain (placed (decoded h s) (record { at = at; offset = pos 0 }))
plain-decoded (Ok k) s at = refl
plain-decoded (Err n) s at = tt

plain_by : (a b c : Bool) (p q : Place) (x : Reading) → Plain x → Plain (cond a (Refused Refusal.WrongLength p) (cond b (Refused Refusal.CutShort q) (cond c End x)))
plain_by true b c p q x h = tt
plain_by false true c p q x h = tt
plain_by false false true p q x h = tt
plain_by false false false p q x h = h

pub plain : (s : List ℕ) (at : ℕ) → Plain (read-01 s at)
plain s at =
    plain_by (ltb 65536 (length s)) (ltb (length s) at) (eqb at (length s)) start (record { at = at; offset = pos 0 }) (placed (decode-01 (drop at s)) (record { at = at; offset = pos 0 }))
    (plain-decoded (head-01 (drop at s)) (drop at s) at)

-- the places that 01's reader comes to
pub data Reached (s : List ℕ) : ℕ → Type 0 where
  first : Reached s 0
  next : {at : ℕ} {r : Record} {q : Place} → Reached s at → read-01 s at ≡ A.Record r q → Reached s q.at

-- a session as 01 knows it: where its reader comes to, no kind 4 stands, and what it reads has a time of at most 2^53 in size
pub record Old (s : List ℕ) : Type 0 where
  pub kinds : (at : ℕ) → Reached s at → is_offset (drop at s) ≡ false
  pub times : (at : ℕ) → Reached s at → Timely (drop at s)
