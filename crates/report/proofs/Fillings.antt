-- A buffer under 40 bytes is refused; any other is filled, and what is answered of it is what stands there. Assumes nothing.
use Rattle.std.specs.Prelude.{Err, Ok, Result}
use Rattle.std.specs.Result.{result_unwrap_or}
use Rattle.refusal.specs.declared.Refusal.{Refusal}
use Rattle.text.specs.Text.{InFront}
use Rattle.text.proofs.Fronts.{long-enough}
use Rattle.lines.specs.Lines.{line_room}
use Prim.Native.Nat.{ℕ, ◌≤◌, ◌<◌}
use native.Mathlib.Omega.{arith}
use mathlib.Core.Path.{◌≡◌, refl, sym, ap, ◌∙◌}
use mathlib.Core.List.{List, ◌++◌}
use mathlib.Core.Bool.{Bool, true, false, cond}
use lib.ListN.{length, drop, length-append}
use lib.Dec.{ltb}
use borrow.Author.Tests.{lt-ltb, le-ltb, ltb-false}
use Rattle.report.specs.declared.Next.{Next}
use Rattle.report.specs.declared.Filled.{Filled}
use Rattle.report.specs.Listing.{steps_from, text_in, next_in, Fills, FillOf, Stepped}

pub too_short : (s : List ℕ) (next : Next) (d : List ℕ) → length d < 40 → FillOf s next d d (Err Refusal.NoRoom)
too_short s next d h = record { answer = rw (lt-ltb _ _ h) refl; buffer = rw (lt-ltb _ _ h) refl }

same : (r : Filled) {n : ℕ} {next : Next} → r.length ≡ n → r.next ≡ next → r ≡ record { length = n; next = next }
same r {n} {next} p q =
    let a : r ≡ record { length = n; next = r.next } = ap (λ (k : ℕ). record { length = k; next = r.next }) p in
    a ∙ ap (λ (x : Next). record { length = n; next = x }) q

pub filled : {s : List ℕ} {next : Next} {d e : List ℕ} {r : Filled} → 40 ≤ length d → Fills s next d e r → FillOf s next d e (Ok r)
filled {s} {next} {d} {e} {r} h f =
    record {
      answer = rw (le-ltb _ _ h) (ap Ok (same r f.count f.after));
      buffer = rw (le-ltb _ _ h) (f.buffer ∙ ap (λ (n : ℕ). text_in (length d) (steps_from s next) ++ drop n d) f.count);
    }

-- a line that was made is a step
pub stepped : {x d e : List ℕ} {r : Result ℕ Refusal} {n : ℕ} (next : Next) → 40 ≤ length d → InFront line_room x d e r → n ≡ result_unwrap_or r 0
    → Stepped (record { line = x; next = next }) d e (record { length = n; next = next })
stepped {d = d} {r = r} next h m u =
    let o = long-enough line_room _ d _ r h m in
    record { count = u ∙ ap (λ (y : Result ℕ Refusal). result_unwrap_or y 0) o.0; after = refl; buffer = o.1 }

-- lines are answered only of a buffer of 40 bytes or more
told_by_lem : (b : Bool) (r x : Filled) (e d y : List ℕ) → Ok r ≡ cond b (Err Refusal.NoRoom) (Ok x) → e ≡ cond b d y → (b ≡ false) × (r ≡ x) × (e ≡ y)
told_by_lem true r x e d y p q = let z : ◌≡◌ {A = ℕ} 0 1 = cc in let w : ⊥ = omega arith in absurd w
told_by_lem false r x e d y p q = (refl, cc, q)

module _ {s : List ℕ} {next : Next} {d e : List ℕ} {r : Filled} (f : FillOf s next d e (Ok r)) where
  made : List ℕ
  made = text_in (length d) (steps_from s next)

  pub lines-room : 40 ≤ length d
  unfolding made
  lines-room =
      let t = told_by_lem (ltb (length d) 40) r (record { length = length made; next = next_in (length d) next (steps_from s next) }) e d (made ++ drop (length made) d) f.answer f.buffer in
      ltb-false (length d) 40 t.0

  pub lines-fill : Fills s next d e r
  unfolding made
  lines-fill =
      let t = told_by_lem (ltb (length d) 40) r (record { length = length made; next = next_in (length d) next (steps_from s next) }) e d (made ++ drop (length made) d) f.answer f.buffer in
      record {
        count = ap (λ (x : Filled). x.length) t.1;
        after = ap (λ (x : Filled). x.next) t.1;
        buffer = t.2 ∙ ap (λ (n : ℕ). made ++ drop n d) (sym (ap (λ (x : Filled). x.length) t.1));
      }

  pub lines-within : r.length ≤ length e
  unfolding made
  lines-within =
      omega (arith, lines-fill.count, ap length lines-fill.buffer ∙ length-append made (drop r.length d))
