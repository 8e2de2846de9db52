-- What `ok_or` refuses. Assumes nothing.
use Rattle.std.specs.Prelude.{◌≡◌, ℕ, Err, Ok, None, Option, Result, Some}
use Rattle.std.specs.Option.{ok_or}
use Rattle.std.proofs.Common.{refl, sym, ◌∙◌}
use Rattle.facts.proofs.Wholes.{zero_one}
use Rattle.refusal.specs.declared.Refusal.{Refusal}

same : {A : Type 0} (x y : Refusal) → ◌≡◌ {A = Result A Refusal} (Err x) (Err y) → x ≡ y
same x y e = cc

apart : {A : Type 0} (a : A) (x : Refusal) → ◌≡◌ {A = Result A Refusal} (Ok a) (Err x) → ⊥
apart a x e = let n : ◌≡◌ {A = ℕ} 0 1 = cc in zero_one n

-- it refuses nothing but None, and with the refusal that it is given
pub refused_by : {A : Type 0} (o : Option A) (r : Result A Refusal) (e x : Refusal) → r ≡ ok_or o e → r ≡ Err x → (o ≡ None) × (x ≡ e)
refused_by None r e x v w = (refl, same x e (sym w ∙ v))
refused_by (Some a) r e x v w = absurd (apart a x (sym v ∙ w))
