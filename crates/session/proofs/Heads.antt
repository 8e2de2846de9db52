-- What a record that passed its tests is known to have, once over the kind. Assumes nothing.
use Rattle.std.specs.Prelude.{Err, None, Ok, Option, Result, Some}
use Rattle.refusal.specs.declared.Refusal.{Refusal}
use Prim.Native.Nat.{ℕ, ◌≤◌}
use native.Mathlib.Omega.{arith}
use mathlib.Core.Path.{◌≡◌, refl, sym}
use mathlib.Core.List.{List}
use mathlib.Core.Bool.{Bool, true, false, cond, not, ◌&&◌}
use lib.ListN.{length}
use lib.Dec.{ltb, leb, eqb}
use borrow.Author.Tests.{ltb-false, leb-true, eqb-true}
use Rattle.facts.proofs.Truth.{each}
use Rattle.session.specs.declared.record.Kind.{Kind}
use Rattle.session.specs.declared.record.Kind.TheVariants.{State, Burn, Mark}
use Rattle.session.specs.declared.record.Record.{Record}
use Rattle.session.specs.declared.record.Decoded.TheVariants.{Whole}
use Rattle.field.specs.Bytes.{field}
use Rattle.session.specs.Layout.{vehicle_at, byte_at, time_at, numbers_from, all_finite, record_at, time_in}
use Rattle.session.specs.Limits.{time_allowed}
use Rattle.session.specs.Kinds.{kind_of, record_length, count_of, top_of}
use Rattle.session.specs.Decode.{allowed_at, judged, head_of, decoded, decode_of}
use Rattle.session.proofs.Table.{long}

never : {X : Type 0} (n : Refusal) (k : Kind) → Err n ≡ Ok k → X
never n k p = absurd (cc)

-- only a good head passes
tests : (e l a : Bool) (j k : Kind) → cond (not e) (Err Refusal.WrongLength) (cond l (Err Refusal.CutShort) (cond a (Ok j) (Err Refusal.NotAllowed))) ≡ Ok k
    → (e ≡ true) × (l ≡ false) × (a ≡ true) × (j ≡ k)
tests false l a j k p = never Refusal.WrongLength k p
tests true true a j k p = never Refusal.CutShort k p
tests true false false j k p = never Refusal.NotAllowed k p
tests true false true j k p = (refl, refl, refl, cc)

front : (a b : Bool) (h : Result Kind Refusal) (k : Kind) → cond a (Err Refusal.CutShort) (cond b (Err Refusal.WrongLength) h) ≡ Ok k → h ≡ Ok k
front true b h k p = never Refusal.CutShort k p
front false true h k p = never Refusal.WrongLength k p
front false false h k p = p

-- what each test has shown
pub record Holds (k : Kind) (s : List ℕ) : Type 0 where
  pub length-field : field 0 2 s ≡ record_length k
  pub size : record_length k ≤ length s
  pub vehicle : vehicle_at s ≤ 1
  pub byte : byte_at s ≤ top_of k
  pub time : time_allowed (time_at s) ≡ true
  pub numbers : all_finite (numbers_from 0 (count_of k) s) ≡ true

judged-good : (f : Option Kind) (s : List ℕ) (k : Kind) → judged f s ≡ Ok k → (f ≡ Some k) × Holds k s
judged-good None s k p = never Refusal.UnknownKind k p
judged-good (Some j) s k p =
    let t = tests (eqb (field 0 2 s) (record_length j)) (ltb (length s) (record_length j)) (allowed_at j s) j k p in
    let b = each (leb (vehicle_at s) 1 && leb (byte_at s) (top_of j) && time_allowed (time_at s)) (all_finite (numbers_from 0 (count_of j) s)) t.2 in
    let m = each (leb (vehicle_at s) 1 && leb (byte_at s) (top_of j)) (time_allowed (time_at s)) b.0 in
    let d = each (leb (vehicle_at s) 1) (leb (byte_at s) (top_of j)) m.0 in
    rw (← t.3) (
      refl,
      record {
        length-field = eqb-true (field 0 2 s) (record_length j) t.0;
        size = ltb-false (length s) (record_length j) t.1;
        vehicle = leb-true (vehicle_at s) 1 d.0;
        byte = leb-true (byte_at s) (top_of j) d.1;
        time = m.1;
        numbers = b.1;
      },
    )

good : (s : List ℕ) (k : Kind) → head_of s ≡ Ok k → (kind_of (field 2 2 s) ≡ Some k) × Holds k s
good s k p = judged-good (kind_of (field 2 2 s)) s k (front (ltb (length s) 4) (ltb (field 0 2 s) 4) (judged (kind_of (field 2 2 s)) s) k p)

pub good-kind : (s : List ℕ) (k : Kind) → head_of s ≡ Ok k → kind_of (field 2 2 s) ≡ Some k
good-kind s k p = (good s k p).0

pub good-head : (s : List ℕ) (k : Kind) → head_of s ≡ Ok k → Holds k s
good-head s k p = (good s k p).1

fits-of : (h : Result Kind Refusal) (s : List ℕ) (r : Record) (n : ℕ) → h ≡ head_of s → decoded h s ≡ Whole r n → (30 ≤ n) × (n ≤ length s)
fits-of (Ok k) s r n e p = let q : record_length k ≡ n = cc in rw (← q) (long k, (good-head s k (sym e)).size)
fits-of (Err x) s r n e p = let z : ◌≡◌ {A = ℕ} 0 1 = cc in let w : ⊥ = omega arith in absurd w

time_of_lem : (h : Result Kind Refusal) (s : List ℕ) (r : Record) (n : ℕ) → h ≡ head_of s → decoded h s ≡ Whole r n → time_allowed (time_in r) ≡ true
time_of_lem (Ok State) s r n e p = let q : record_at State s ≡ r = cc in rw (← q) (good-head s State (sym e)).time
time_of_lem (Ok Burn) s r n e p = let q : record_at Burn s ≡ r = cc in rw (← q) (good-head s Burn (sym e)).time
time_of_lem (Ok Mark) s r n e p = let q : record_at Mark s ≡ r = cc in rw (← q) (good-head s Mark (sym e)).time
time_of_lem (Err x) s r n e p = let z : ◌≡◌ {A = ℕ} 0 1 = cc in let w : ⊥ = omega arith in absurd w

-- a record that was decoded has an allowed time
pub whole-time : (s : List ℕ) (r : Record) (n : ℕ) → decode_of s ≡ Whole r n → time_allowed (time_in r) ≡ true
whole-time s r n p = time_of_lem (head_of s) s r n refl p

-- a record that was decoded lies within the bytes
pub whole-fits : (s : List ℕ) (r : Record) (n : ℕ) → decode_of s ≡ Whole r n → (30 ≤ n) × (n ≤ length s)
whole-fits s r n p = fits-of (head_of s) s r n refl p
