-- Row 1 is met exactly where every number of its inputs is finite. Assumes nothing.
use mathlib.Core.Path.{◌≡◌, refl, sym, ap, ◌∙◌}
use mathlib.Core.Bool.{Bool, true, false, ◌&&◌, and-true}
use lib.Ieee.{Float}
use Rattle.real.specs.F64.{finite}
use Rattle.vector.specs.declared.Vector.{Vector}
use Rattle.table.specs.declared.Name.{Name}
use Rattle.table.specs.Tests.{all_meet}
use Rattle.rows.specs.Rows.{finite_inputs}

abbrev pub all_finite : Vector → Bool
all_finite a = finite a.x && finite a.y && finite a.z

pub inputs-finite : (mu : Float) (m n : Name) (a b : Vector) → all_meet (finite_inputs mu m a n b) ≡ (finite mu && all_finite a && all_finite b)
inputs-finite mu m n a b = go (finite mu) (finite a.x) (finite a.y) (finite a.z) (finite b.x) (finite b.y) (finite b.z)
  where
    go : (m p q r x y z : Bool) → (m && (p && (q && (r && (x && (y && (z && true))))))) ≡ (m && (p && q && r) && (x && y && z))
    go false p q r x y z = refl
    go true false q r x y z = refl
    go true true false r x y z = refl
    go true true true false x y z = refl
    go true true true true false y z = refl
    go true true true true true false z = refl
    go true true true true true true false = refl
    go true true true true true true true = refl

-- and of one number more
pub one_more : {a b : Bool} → a ≡ b → (c : Bool) → (a && (c && true)) ≡ (b && c)
one_more e true = ap (λ (x : Bool). x && true) e
one_more e false = ap (λ (x : Bool). x && false) e

-- and of two
and-false : (b d : Bool) → (b && false) ≡ (b && false && d)
and-false true d = refl
and-false false d = refl

pub two-more : {a b : Bool} → a ≡ b → (c d : Bool) → (a && (c && (d && true))) ≡ (b && c && d)
two-more {a} {b} e true d = one_more e d ∙ ap (λ (x : Bool). x && d) (sym (and-true b))
two-more {a} {b} e false d = ap (λ (x : Bool). x && false) e ∙ and-false b d
