-- What a NaN shows. Assumes nothing.
use mathlib.Core.Path.{◌≡◌, refl, sym, ap, ◌∙◌, subst}
use mathlib.Core.Bool.{true}
use mathlib.Core.List.{[], ◌∷◌}
use lib.Dec.{T}
use lib.Ieee.{Float, nan, to_bits, ne}
use lib.Ieee.Compare.{differs_from_itself}
use Rattle.text.specs.Text.{ascii, digit_text}
use Rattle.figures.specs.Figures.{places, fixed_of}
use Rattle.limits.specs.Limits.{is_power, other_pieces, exact_of}

exact-of-nan : exact_of nan ≡ ascii "x7FF8000000000000"
unfolding exact_of to_bits places digit_text
exact-of-nan = refl

pub exact-nan : (x : Float) → ne x x ≡ true → exact_of x ≡ ascii "x7FF8000000000000"
exact-nan x e = ap exact_of (differs_from_itself x (subst T (sym e) tt)) ∙ exact-of-nan

other-of-nan : other_pieces nan ≡ fixed_of nan ∷ []
unfolding other_pieces is_power to_bits
other-of-nan = refl

pub other-nan : (x : Float) → ne x x ≡ true → other_pieces x ≡ fixed_of x ∷ []
other-nan x e =
    let n : x ≡ nan = differs_from_itself x (subst T (sym e) tt) in
    ap other_pieces n ∙ other-of-nan ∙ ap (λ (y : Float). fixed_of y ∷ []) (sym n)
