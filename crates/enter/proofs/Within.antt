-- A line that is entered ends within the buffer. Assumes nothing.
use Rattle.std.specs.Prelude.{Err, Ok, Result}
use Rattle.refusal.specs.declared.Refusal.{Refusal}
use Prim.Native.Nat.{ℕ, ◌+◌, ◌≤◌}
use native.Mathlib.Omega.{arith}
use mathlib.Core.Path.{◌≡◌, refl, ap}
use mathlib.Core.List.{List}
use mathlib.Core.Bool.{Bool, true, false, cond, not}
use lib.ListN.{length}
use lib.Dec.{leb}
use borrow.Author.Tests.{leb-true}
use Rattle.facts.proofs.Truth.{each}
use Rattle.session.specs.Kinds.{record_length}
use Rattle.session.specs.Layout.{kind_in}
use Rattle.session.specs.Decode.{allowed_in}
use Rattle.writer.specs.Write.{has_room, written_for, offset_may}
use Rattle.entry.specs.declared.line.Entry.{Entry}
use Rattle.entry.specs.declared.line.Entry.TheVariants as E
use Rattle.enter.specs.Enter.{as_entered_by, state_record, burn_record, mark_record, entry_written, entered_by, entered_of}

told : (a b : Bool) (m x : ℕ) → ◌≡◌ {A = Result ℕ Refusal} (cond (not a) (Err Refusal.NotAllowed) (cond (not b) (Err Refusal.NoRoom) (Ok m))) (Ok x) → (b ≡ true) × (m ≡ x)
told false b m x e = absurd (cc)
told true false m x e = absurd (cc)
told true true m x e = (refl, cc)

written-within : (may : Bool) (d : List ℕ) (at n x : ℕ) → written_for may d at n ≡ Ok x → x ≤ length d
written-within may d at n x e =
    let t = told may (has_room at n (length d)) (at + n) x e in
    let h = leb-true (at + n) (length d) (each (leb (at + n) (length d)) (leb (at + n) 65536) t.0).0 in
    omega (arith, h, t.1)

entry-within : (d : List ℕ) (at : ℕ) (e : Entry) (x : ℕ) → at ≤ length d → entry_written d at e ≡ Ok x → x ≤ length d
entry-within d at E.Nothing x h e = let w : at ≡ x = cc in omega (arith, h, w)
entry-within d at (E.Offset z) x h e = written-within (offset_may at z) d at 8 x e
entry-within d at (E.State t v b s) x h e = let r = state_record t v b s in written-within (allowed_in r) d at (record_length (kind_in r)) x e
entry-within d at (E.Burn t v c) x h e = let r = burn_record t v c in written-within (allowed_in r) d at (record_length (kind_in r)) x e
entry-within d at (E.Mark t v p q) x h e = let r = mark_record t v p q in written-within (allowed_in r) d at (record_length (kind_in r)) x e

entered-as : {R : Type 0} (given : Refusal → R) (w : Result ℕ Refusal) (x : ℕ) → as_entered_by given w ≡ Ok x → w ≡ Ok x
entered-as given (Ok n) x e = let w : n ≡ x = cc in ap Ok w
entered-as given (Err n) x e = absurd (cc)

-- with anything in the place of a refusal
pub within-by : {R : Type 0} (given : Refusal → R) (d : List ℕ) (at : ℕ) (e : Result Entry ℕ) (x : ℕ) → at ≤ length d → entered_by given d at e ≡ Ok x → x ≤ length d
within-by given d at (Ok e) x h p = entry-within d at e x h (entered-as given (entry_written d at e) x p)
within-by given d at (Err w) x h p = absurd (cc)

pub within : (d : List ℕ) (at : ℕ) (e : Result Entry ℕ) (x : ℕ) → at ≤ length d → entered_of d at e ≡ Ok x → x ≤ length d
within d at e x h p = within-by (λ r. r) d at e x h p
