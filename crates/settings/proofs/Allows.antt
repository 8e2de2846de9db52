-- What an allowed setting has shown. Assumes nothing.
use Rattle.std.specs.Prelude.{None, Option, Some, is_some, is_none, not, Result, Ok, Err}
use Rattle.std.proofs.lemmas.Option.{none-some}
use Rattle.std.proofs.lemmas.Bool.{false≢true}
use Rattle.refusal.specs.declared.Refusal.TheVariants as Refusal
use Prim.Native.Nat.{ℕ, ◌≤◌}
use mathlib.Core.Path.{◌≡◌, refl, sym, ap, ◌∙◌}
use mathlib.Core.Bool.{Bool, true, false, cond}
use lib.Dec.{ltb}
use borrow.Author.Tests.{ltb-false}
use Rattle.table.specs.Tests.{Entry, first_failing}
use Rattle.settings.specs.declared.allowed.Setting.{Setting}
use Rattle.settings.specs.Allowed.{setting_tests, refusal_by, refusal_of}

pub none-by : {A : Type 0} (o : Option A) → is_none o ≡ true → o ≡ None
none-by None h = refl
none-by (Some x) h = absurd (false≢true h)

-- what `is_none` answers
pub none-tested : {A : Type 0} (o : Option A) (b : Bool) → is_some o ≡ not b → b ≡ is_none o
none-tested o b e = not-twice b ∙ ap not (sym e)
  where
    not-twice : (b : Bool) → b ≡ not (not b)
    not-twice true = refl
    not-twice false = refl

-- the body is 0 or 1
body-by : (t : Result Unit Entry) (b : Bool) (body : ℕ) → ltb 1 body ≡ b → refusal_by t body ≡ None → b ≡ false
unfolding refusal_by
body-by (Ok u) true body h z =
    absurd (none-some Refusal.NotAllowed (sym (ap (λ (b : Bool). cond b (Some Refusal.NotAllowed) None) (sym h) ∙ z)))
body-by (Ok u) false body h z = refl
body-by (Err e) b body h z = absurd (none-some e.refusal (sym z))

pub body-allowed : (x : Setting) → refusal_of x ≡ None → x.body ≤ 1
body-allowed x z =
    ltb-false 1 x.body (body-by (first_failing (setting_tests x)) (ltb 1 x.body) x.body refl z)
