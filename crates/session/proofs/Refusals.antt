-- A refusal of the reader is 11, 12, 13 or 14, at the place that was handed in; only a session over 65,536 bytes is
-- refused at the start wherever the reader stands. Assumes nothing.
use Rattle.std.specs.Prelude.{Err, None, Ok, Option, Result, Some}
use Rattle.refusal.specs.declared.Refusal.{Refusal}
use Rattle.refusal.specs.Refusals.{number_of}
use Prim.Native.Nat.{ℕ, ◌≤◌}
use native.Mathlib.Omega.{arith}
use mathlib.Core.Path.{◌≡◌, refl, sym, ap, ◌∙◌}
use mathlib.Core.List.{List}
use mathlib.Core.Bool.{Bool, true, false, cond, not}
use lib.ListN.{length, drop}
use lib.Dec.{ltb, eqb, lit≤}
use lib.IntN.{ℤ}
use borrow.Author.Tests.{le-ltb}
use Rattle.session.specs.declared.record.Kind.{Kind}
use Rattle.session.specs.declared.record.Decoded.{Decoded}
use Rattle.session.specs.declared.record.Decoded.TheVariants as D
use Rattle.session.specs.declared.Place.{Place}
use Rattle.session.specs.declared.Reading.{Reading}
use Rattle.session.specs.declared.Reading.TheVariants.{Record, Offset, End, Refused}
use Rattle.field.specs.Bytes.{field}
use Rattle.session.specs.Kinds.{kind_of, record_length}
use Rattle.session.specs.Decode.{allowed_at, judged, head_of, decoded, decode_of}
use Rattle.session.specs.Limits.{offset_allowed}
use Rattle.session.specs.Offset.{is_offset, minutes_at, good_offset, offset_of, decode_at}
use Rattle.session.specs.Read.{start, placed, read_at}

abbrev pub Given : Refusal → Type 0
Given n = (11 ≤ number_of n) × (number_of n ≤ 14)

abbrev GivenBy : Result Kind Refusal → Type 0
GivenBy (Ok k) = Unit {0}
GivenBy (Err n) = Given n

tests-given : (e l a : Bool) (k : Kind) → GivenBy (cond (not e) (Err Refusal.WrongLength) (cond l (Err Refusal.CutShort) (cond a (Ok k) (Err Refusal.NotAllowed))))
tests-given false l a k = (lit≤ tt, lit≤ tt)
tests-given true true a k = (lit≤ tt, lit≤ tt)
tests-given true false true k = tt
tests-given true false false k = (lit≤ tt, lit≤ tt)

judged-given : (f : Option Kind) (s : List ℕ) → GivenBy (judged f s)
judged-given None s = (lit≤ tt, lit≤ tt)
judged-given (Some k) s = tests-given (eqb (field 0 2 s) (record_length k)) (ltb (length s) (record_length k)) (allowed_at k s) k

front-given : (a b : Bool) (h : Result Kind Refusal) → GivenBy h → GivenBy (cond a (Err Refusal.CutShort) (cond b (Err Refusal.WrongLength) h))
front-given true b h g = (lit≤ tt, lit≤ tt)
front-given false true h g = (lit≤ tt, lit≤ tt)
front-given false false h g = g

head-given : (s : List ℕ) → GivenBy (head_of s)
head-given s = front-given (ltb (length s) 4) (ltb (field 0 2 s) 4) (judged (kind_of (field 2 2 s)) s) (judged-given (kind_of (field 2 2 s)) s)

abbrev GivenIn : Decoded → Type 0
GivenIn (D.Whole r n) = Unit {0}
GivenIn (D.Offset z) = Unit {0}
GivenIn (D.Refused n) = Given n

decoded-given : (h : Result Kind Refusal) (s : List ℕ) → GivenBy h → GivenIn (decoded h s)
decoded-given (Ok k) s g = tt
decoded-given (Err n) s g = g

offset-given : (a b c : Bool) (z : ℤ) → GivenIn (cond (not a) (D.Refused Refusal.WrongLength) (cond b (D.Refused Refusal.CutShort) (cond c (D.Offset z) (D.Refused Refusal.NotAllowed))))
offset-given false b c z = (lit≤ tt, lit≤ tt)
offset-given true true c z = (lit≤ tt, lit≤ tt)
offset-given true false true z = tt
offset-given true false false z = (lit≤ tt, lit≤ tt)

either-given : (b first : Bool) (s : List ℕ) → GivenIn (cond b (offset_of first s) (decode_of s))
either-given true first s = offset-given (eqb (field 0 2 s) 8) (ltb (length s) 8) (good_offset first s) (minutes_at s)
either-given false first s = decoded-given (head_of s) s (head-given s)

told_in : (d : Decoded) (n : Refusal) → d ≡ D.Refused n → GivenIn d → Given n
told_in (D.Whole r m) n e g = let z : ◌≡◌ {A = ℕ} 0 1 = cc in let w : ⊥ = omega arith in absurd w
told_in (D.Offset z) n e g = let z : ◌≡◌ {A = ℕ} 0 1 = cc in let w : ⊥ = omega arith in absurd w
told_in (D.Refused m) n e g = let y : m ≡ n = cc in rw (← y) g

pub decode-number : (first : Bool) (s : List ℕ) (n : Refusal) → decode_at first s ≡ D.Refused n → Given n
decode-number first s n e = told_in (decode_at first s) n e (either-given (is_offset s) first s)

-- the number and the place of what was read at a place
abbrev GivenAt : Bool → Place → Reading → Type 0
GivenAt long p (Record r q) = Unit {0}
GivenAt long p (Offset q) = Unit {0}
GivenAt long p End = Unit {0}
GivenAt long p (Refused n q) = Given n × (q ≡ cond long start p)

placed-given : (d : Decoded) (p : Place) → GivenIn d → GivenAt false p (placed d p)
placed-given (D.Whole r n) p g = tt
placed-given (D.Offset z) p g = tt
placed-given (D.Refused n) p g = (g, refl)

read-given : (a b c d : Bool) (p : Place) (x : Reading) → GivenAt false p x
    → GivenAt a p (cond a (Refused Refusal.WrongLength start) (cond (not b) (Refused Refusal.NotAllowed p) (cond c (Refused Refusal.CutShort p) (cond d End x))))
read-given true b c d p x g = ((lit≤ tt, lit≤ tt), refl)
read-given false false c d p x g = ((lit≤ tt, lit≤ tt), refl)
read-given false true true d p x g = ((lit≤ tt, lit≤ tt), refl)
read-given false true false true p x g = tt
read-given false true false false p x g = g

given : (s : List ℕ) (p : Place) → GivenAt (ltb 65536 (length s)) p (read_at s p)
given s p =
    let l = drop p.at s in
    let f = eqb p.at 0 in
    read-given (ltb 65536 (length s)) (offset_allowed p.offset) (ltb (length s) p.at) (eqb p.at (length s)) p (placed (decode_at f l) p)
    (placed-given (decode_at f l) p (either-given (is_offset l) f l))

told : (a : Reading) (long : Bool) (p : Place) (n : Refusal) (q : Place) → a ≡ Refused n q → GivenAt long p a → Given n × (q ≡ cond long start p)
told (Record r x) long p n q e g = let z : ◌≡◌ {A = ℕ} 0 1 = cc in let w : ⊥ = omega arith in absurd w
told (Offset x) long p n q e g = let z : ◌≡◌ {A = ℕ} 0 1 = cc in let w : ⊥ = omega arith in absurd w
told End long p n q e g = let z : ◌≡◌ {A = ℕ} 0 1 = cc in let w : ⊥ = omega arith in absurd w
told (Refused m x) long p n q e g =
    let y : m ≡ n = cc in
    let z : x ≡ q = cc in
    (rw (← y) g.0, sym z ∙ g.1)

pub refusal-number : (s : List ℕ) (p : Place) (n : Refusal) (q : Place) → read_at s p ≡ Refused n q → Given n
refusal-number s p n q e = (told (read_at s p) (ltb 65536 (length s)) p n q e (given s p)).0

pub refusal-place : (s : List ℕ) (p : Place) (n : Refusal) (q : Place) → length s ≤ 65536 → read_at s p ≡ Refused n q → q ≡ p
refusal-place s p n q h e =
    (told (read_at s p) (ltb 65536 (length s)) p n q e (given s p)).1
    ∙ ap (λ (b : Bool). cond b start p) (le-ltb 65536 (length s) h)
