-- Of tests: as a Bool, as a type, and made one after another. Assumes nothing.
use mathlib.Core.Path.{◌≡◌, refl, sym, subst}
use mathlib.Core.Bool.{Bool, true, false, ◌&&◌, ◌||◌, true≢false}
use lib.Dec.{T}

pub of-true : {t : Bool} → t ≡ true → T t
of-true e = subst T (sym e) tt

pub never : (b : Bool) → (b ≡ true → ⊥) → b ≡ false
never true h = absurd (h refl)
never false h = refl

-- ---- one or the other

pub or_left : (p q : Bool) → T p → T (p || q)
or_left true q t = tt
or_left false q t = elim t [ ]

pub or_right : (p q : Bool) → T q → T (p || q)
or_right true q t = tt
or_right false q t = t

pub or-0 : (x y : Bool) → (x || y) ≡ false → x ≡ false
or-0 true y h = h
or-0 false y h = refl

pub or-1 : (x y : Bool) → (x || y) ≡ false → y ≡ false
or-1 true y h = absurd (true≢false h)
or-1 false y h = h

-- ---- a chain of `&&`

pub and_0 : (x y : Bool) → (x && y) ≡ true → x ≡ true
and_0 true y h = refl
and_0 false y h = h

pub and-1 : (x y : Bool) → (x && y) ≡ true → y ≡ true
and-1 true y h = h
and-1 false y h = absurd (true≢false (sym h))

pub each : (x y : Bool) → (x && y) ≡ true → (x ≡ true) × (y ≡ true)
each x y h = (and_0 x y h, and-1 x y h)

pub both : (x y : Bool) → x ≡ true → y ≡ true → (x && y) ≡ true
both true y h k = k
both false y h k = h

pub and-fails : (x y : Bool) → y ≡ false → (x && y) ≡ false
and-fails true y h = h
and-fails false y h = refl
