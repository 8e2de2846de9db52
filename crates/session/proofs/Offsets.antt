-- What the offset's record is known to have, and that it and the records of the table are never taken for each other.
-- Assumes nothing.
use Rattle.std.specs.Prelude.{Err, Ok, Result}
use Rattle.refusal.specs.declared.Refusal.{Refusal}
use Prim.Native.Nat.{ℕ, ◌≤◌, ◌<◌}
use native.Mathlib.Omega.{arith}
use mathlib.Core.Path.{◌≡◌, refl, sym, ap, ◌∙◌}
use mathlib.Core.List.{List}
use mathlib.Core.Bool.{Bool, true, false, cond, not, ◌&&◌}
use lib.ListN.{length}
use lib.Dec.{ltb, leb, eqb, lit<}
use lib.IntN.{ℤ}
use borrow.Author.Tests.{ltb-false, eqb-true, ne_eqb}
use Rattle.facts.proofs.Truth.{each, and-fails}
use Rattle.session.specs.declared.record.Kind.{Kind}
use Rattle.session.specs.declared.record.Kind.TheVariants.{State, Burn, Mark}
use Rattle.session.specs.declared.record.Record.{Record}
use Rattle.session.specs.declared.record.Decoded.TheVariants.{Whole, Offset, Refused}
use Rattle.field.specs.Bytes.{field}
use Rattle.session.specs.Limits.{offset_allowed}
use Rattle.session.specs.Kinds.{kind_number}
use Rattle.session.specs.Decode.{head_of, decoded, decode_of}
use Rattle.session.specs.Offset.{is_offset, minutes_at, good_offset, offset_of, decode_at}
use Rattle.session.proofs.Table.{kind_number_lem}
use Rattle.session.proofs.Heads.{good-kind}

-- no record of the table has kind 4
small : (k : Kind) → kind_number k < 4
small State = lit< tt
small Burn = lit< tt
small Mark = lit< tt

not-offset : (h : Result Kind Refusal) (s : List ℕ) (r : Record) (n : ℕ) → h ≡ head_of s → decoded h s ≡ Whole r n → is_offset s ≡ false
not-offset (Ok k) s r n e p =
    let f = kind_number_lem (field 2 2 s) k (good-kind s k (sym e)) in
    and-fails (leb 4 (length s)) (eqb (field 2 2 s) 4)
    (ne_eqb (field 2 2 s) 4 (λ (q : field 2 2 s ≡ 4). let w : ⊥ = omega (arith, small k, f, q) in w))
not-offset (Err x) s r n e p = let z : ◌≡◌ {A = ℕ} 0 1 = cc in let w : ⊥ = omega arith in absurd w

-- a record of the table is decoded wherever it stands
pub whole-at : (first : Bool) (s : List ℕ) (r : Record) (n : ℕ) → decode_of s ≡ Whole r n → decode_at first s ≡ Whole r n
whole-at first s r n p =
    ap (λ (b : Bool). cond b (offset_of first s) (decode_of s)) (not-offset (head_of s) s r n refl p) ∙ p

-- and nothing else is decoded to one
offset-no-whole : (a b c : Bool) (z : ℤ) (r : Record) (n : ℕ)
    → cond (not a) (Refused Refusal.WrongLength) (cond b (Refused Refusal.CutShort) (cond c (Offset z) (Refused Refusal.NotAllowed))) ≡ Whole r n → ⊥
offset-no-whole false b c z r n p = let z : ◌≡◌ {A = ℕ} 0 1 = cc in let w : ⊥ = omega arith in w
offset-no-whole true true c z r n p = let z : ◌≡◌ {A = ℕ} 0 1 = cc in let w : ⊥ = omega arith in w
offset-no-whole true false true z r n p = let z : ◌≡◌ {A = ℕ} 0 1 = cc in let w : ⊥ = omega arith in w
offset-no-whole true false false z r n p = let z : ◌≡◌ {A = ℕ} 0 1 = cc in let w : ⊥ = omega arith in w

by-test : (b : Bool) (first : Bool) (s : List ℕ) (r : Record) (n : ℕ) → cond b (offset_of first s) (decode_of s) ≡ Whole r n → decode_of s ≡ Whole r n
by-test true first s r n p = absurd (offset-no-whole (eqb (field 0 2 s) 8) (ltb (length s) 8) (good_offset first s) (minutes_at s) r n p)
by-test false first s r n p = p

pub at-whole : (first : Bool) (s : List ℕ) (r : Record) (n : ℕ) → decode_at first s ≡ Whole r n → decode_of s ≡ Whole r n
at-whole first s r n p = by-test (is_offset s) first s r n p

-- what each test has shown
pub record Sets (first : Bool) (s : List ℕ) (z : ℤ) : Type 0 where
  pub length-field : field 0 2 s ≡ 8
  pub kind-field : field 2 2 s ≡ 4
  pub size : 8 ≤ length s
  pub first_one : first ≡ true
  pub zeros : field 6 2 s ≡ 0
  pub minutes : minutes_at s ≡ z
  pub allowed : offset_allowed z ≡ true

tests : (a b c : Bool) (y z : ℤ) → cond (not a) (Refused Refusal.WrongLength) (cond b (Refused Refusal.CutShort) (cond c (Offset y) (Refused Refusal.NotAllowed))) ≡ Offset z
    → (a ≡ true) × (b ≡ false) × (c ≡ true) × (y ≡ z)
tests false b c y z p = let z : ◌≡◌ {A = ℕ} 0 1 = cc in let w : ⊥ = omega arith in absurd w
tests true true c y z p = let z : ◌≡◌ {A = ℕ} 0 1 = cc in let w : ⊥ = omega arith in absurd w
tests true false true y z p = (refl, refl, refl, cc)
tests true false false y z p = let z : ◌≡◌ {A = ℕ} 0 1 = cc in let w : ⊥ = omega arith in absurd w

no_table : (h : Result Kind Refusal) (s : List ℕ) (z : ℤ) → decoded h s ≡ Offset z → ⊥
no_table (Ok k) s z p = let z : ◌≡◌ {A = ℕ} 0 1 = cc in let w : ⊥ = omega arith in w
no_table (Err n) s z p = let z : ◌≡◌ {A = ℕ} 0 1 = cc in let w : ⊥ = omega arith in w

set-by : (b : Bool) (first : Bool) (s : List ℕ) (z : ℤ) → is_offset s ≡ b → cond b (offset_of first s) (decode_of s) ≡ Offset z → Sets first s z
set-by true first s z e p =
    let k = each (leb 4 (length s)) (eqb (field 2 2 s) 4) e in
    let t = tests (eqb (field 0 2 s) 8) (ltb (length s) 8) (good_offset first s) (minutes_at s) z p in
    let g = each (first && eqb (field 6 2 s) 0) (offset_allowed (minutes_at s)) t.2 in
    let f = each first (eqb (field 6 2 s) 0) g.0 in
    record {
      length-field = eqb-true (field 0 2 s) 8 t.0;
      kind-field = eqb-true (field 2 2 s) 4 k.1;
      size = ltb-false (length s) 8 t.1;
      first_one = f.0;
      zeros = eqb-true (field 6 2 s) 0 f.1;
      minutes = t.3;
      allowed = sym (ap offset_allowed t.3) ∙ g.1;
    }
set-by false first s z e p = absurd (no_table (head_of s) s z p)

pub at_offset : (first : Bool) (s : List ℕ) (z : ℤ) → decode_at first s ≡ Offset z → Sets first s z
at_offset first s z p = set-by (is_offset s) first s z refl p
