-- What was shown lies within its buffer, and what comes next is further on. Assumes nothing.
use Prim.Native.Nat.{ℕ, ◌≤◌, ◌<◌}
use native.Mathlib.Omega.{arith}
use mathlib.Core.Path.{◌≡◌, sym, ap, ◌∙◌}
use mathlib.Core.List.{List}
use lib.ListN.{length, drop, length-append}
use borrow.Author.Tests.{le-ltb}
use Rattle.session.specs.declared.Place.{Place}
use Rattle.session.specs.declared.Reading.{Reading}
use Rattle.session.specs.declared.Reading.TheVariants as A
use Rattle.session.specs.Read.{read_at}
use Rattle.session.proofs.Progress.{Leads, by-record, by-offset, progress}
use Rattle.script.specs.declared.Shown.{Shown}
use Rattle.std.specs.Prelude.{Ok, Some}
use Rattle.script.specs.Script.{script_room, next_of, shown_as, text_at, ShownAt}

leads : (r : Reading) (q : Place) → next_of r ≡ Some q → Leads r q
leads (A.Record r p) q e = let y : p ≡ q = cc in rw y by-record
leads (A.Offset p) q e = let y : p ≡ q = cc in rw y by-offset
leads A.End q e = absurd (cc)
leads (A.Refused k p) q e = absurd (cc)

module _ {s : List ℕ} {p : Place} {d e : List ℕ} (h : script_room ≤ length d) (x : Shown) (m : ShownAt s p d e (Ok x)) where
  told : x ≡ shown_as (read_at s p) (length (text_at s p))
  told = let a = rw (le-ltb (length d) script_room h) at m.answer in cc

  -- the lines lie within the buffer
  pub shown-inside : x.length ≤ length e
  shown-inside =
      let b = rw (le-ltb (length d) script_room h) at m.buffer in
      omega (arith, ap (λ (y : Shown). y.length) told, ap length b ∙ length-append (text_at s p) (drop (length (text_at s p)) d))

  -- and what comes next is further on
  pub further : (q : Place) → x.next ≡ Some q → (p.at < q.at) × (q.at ≤ length s)
  further q i =
      let g = progress s p q (leads (read_at s p) q (sym (ap (λ (y : Shown). y.next) told) ∙ i)) in
      (g.further, g.inside)

  pub goes_on : (q : Place) → x.next ≡ Some q → (x.length ≤ length e) × (p.at < q.at) × (q.at ≤ length s)
  goes_on q i = let f = further q i in (shown-inside, f.0, f.1)
