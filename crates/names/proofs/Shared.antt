-- Two names that share a word. Assumes nothing.
use mathlib.Core.Path.{◌≡◌, refl}
use mathlib.Core.List.{[], ◌∷◌}
use denote.Enum.Declared.{tag_of}
use types.Run.{OneOf, miss}
use Rattle.text.specs.Text.{ascii}
use Rattle.table.specs.declared.Name.{Name}
use Rattle.table.specs.declared.Name.TheVariants as N
use Rattle.table.specs.contracts.Name.{the_type}
use Rattle.names.specs.Names.{word_text}

pub first-or-active : (n : Name) → OneOf (3 ∷ 11 ∷ []) (tag_of the_type n) → ascii "a" ≡ word_text n
unfolding word_text
first-or-active N.Mu h = absurd (miss (3 ∷ 11 ∷ []) 0 tt h)
first-or-active N.Position h = absurd (miss (3 ∷ 11 ∷ []) 1 tt h)
first-or-active N.Velocity h = absurd (miss (3 ∷ 11 ∷ []) 2 tt h)
first-or-active N.First h = refl
first-or-active N.Second h = absurd (miss (3 ∷ 11 ∷ []) 4 tt h)
first-or-active N.Normal h = absurd (miss (3 ∷ 11 ∷ []) 5 tt h)
first-or-active N.Time h = absurd (miss (3 ∷ 11 ∷ []) 6 tt h)
first-or-active N.Sin h = absurd (miss (3 ∷ 11 ∷ []) 7 tt h)
first-or-active N.Cos h = absurd (miss (3 ∷ 11 ∷ []) 8 tt h)
first-or-active N.Lo h = absurd (miss (3 ∷ 11 ∷ []) 9 tt h)
first-or-active N.Hi h = absurd (miss (3 ∷ 11 ∷ []) 10 tt h)
first-or-active N.Active h = refl
first-or-active N.Passive h = absurd (miss (3 ∷ 11 ∷ []) 12 tt h)
first-or-active N.Elevation h = absurd (miss (3 ∷ 11 ∷ []) 13 tt h)
first-or-active N.Horizontal h = absurd (miss (3 ∷ 11 ∷ []) 14 tt h)
first-or-active N.Vertical h = absurd (miss (3 ∷ 11 ∷ []) 15 tt h)
first-or-active N.Radius h = absurd (miss (3 ∷ 11 ∷ []) 16 tt h)
first-or-active N.Closed h = absurd (miss (3 ∷ 11 ∷ []) 17 tt h)
first-or-active N.Fair h = absurd (miss (3 ∷ 11 ∷ []) 18 tt h)
first-or-active N.Cross h = absurd (miss (3 ∷ 11 ∷ []) 19 tt h)
first-or-active N.Versine h = absurd (miss (3 ∷ 11 ∷ []) 20 tt h)
first-or-active N.Excess h = absurd (miss (3 ∷ 11 ∷ []) 21 tt h)
first-or-active N.C1 h = absurd (miss (3 ∷ 11 ∷ []) 22 tt h)
first-or-active N.C2 h = absurd (miss (3 ∷ 11 ∷ []) 23 tt h)
first-or-active N.Ratio h = absurd (miss (3 ∷ 11 ∷ []) 24 tt h)
first-or-active N.Cothalf h = absurd (miss (3 ∷ 11 ∷ []) 25 tt h)
first-or-active N.Cot h = absurd (miss (3 ∷ 11 ∷ []) 26 tt h)
first-or-active N.P h = absurd (miss (3 ∷ 11 ∷ []) 27 tt h)
first-or-active N.E h = absurd (miss (3 ∷ 11 ∷ []) 28 tt h)
first-or-active N.Den h = absurd (miss (3 ∷ 11 ∷ []) 29 tt h)
first-or-active N.W h = absurd (miss (3 ∷ 11 ∷ []) 30 tt h)
first-or-active N.Radicand h = absurd (miss (3 ∷ 11 ∷ []) 31 tt h)
first-or-active N.X h = absurd (miss (3 ∷ 11 ∷ []) 32 tt h)
first-or-active N.Xi h = absurd (miss (3 ∷ 11 ∷ []) 33 tt h)
first-or-active N.TrialTime h = absurd (miss (3 ∷ 11 ∷ []) 34 tt h)

pub passive-or-p : (n : Name) → OneOf (12 ∷ 27 ∷ []) (tag_of the_type n) → ascii "p" ≡ word_text n
unfolding word_text
passive-or-p N.Mu h = absurd (miss (12 ∷ 27 ∷ []) 0 tt h)
passive-or-p N.Position h = absurd (miss (12 ∷ 27 ∷ []) 1 tt h)
passive-or-p N.Velocity h = absurd (miss (12 ∷ 27 ∷ []) 2 tt h)
passive-or-p N.First h = absurd (miss (12 ∷ 27 ∷ []) 3 tt h)
passive-or-p N.Second h = absurd (miss (12 ∷ 27 ∷ []) 4 tt h)
passive-or-p N.Normal h = absurd (miss (12 ∷ 27 ∷ []) 5 tt h)
passive-or-p N.Time h = absurd (miss (12 ∷ 27 ∷ []) 6 tt h)
passive-or-p N.Sin h = absurd (miss (12 ∷ 27 ∷ []) 7 tt h)
passive-or-p N.Cos h = absurd (miss (12 ∷ 27 ∷ []) 8 tt h)
passive-or-p N.Lo h = absurd (miss (12 ∷ 27 ∷ []) 9 tt h)
passive-or-p N.Hi h = absurd (miss (12 ∷ 27 ∷ []) 10 tt h)
passive-or-p N.Active h = absurd (miss (12 ∷ 27 ∷ []) 11 tt h)
passive-or-p N.Passive h = refl
passive-or-p N.Elevation h = absurd (miss (12 ∷ 27 ∷ []) 13 tt h)
passive-or-p N.Horizontal h = absurd (miss (12 ∷ 27 ∷ []) 14 tt h)
passive-or-p N.Vertical h = absurd (miss (12 ∷ 27 ∷ []) 15 tt h)
passive-or-p N.Radius h = absurd (miss (12 ∷ 27 ∷ []) 16 tt h)
passive-or-p N.Closed h = absurd (miss (12 ∷ 27 ∷ []) 17 tt h)
passive-or-p N.Fair h = absurd (miss (12 ∷ 27 ∷ []) 18 tt h)
passive-or-p N.Cross h = absurd (miss (12 ∷ 27 ∷ []) 19 tt h)
passive-or-p N.Versine h = absurd (miss (12 ∷ 27 ∷ []) 20 tt h)
passive-or-p N.Excess h = absurd (miss (12 ∷ 27 ∷ []) 21 tt h)
passive-or-p N.C1 h = absurd (miss (12 ∷ 27 ∷ []) 22 tt h)
passive-or-p N.C2 h = absurd (miss (12 ∷ 27 ∷ []) 23 tt h)
passive-or-p N.Ratio h = absurd (miss (12 ∷ 27 ∷ []) 24 tt h)
passive-or-p N.Cothalf h = absurd (miss (12 ∷ 27 ∷ []) 25 tt h)
passive-or-p N.Cot h = absurd (miss (12 ∷ 27 ∷ []) 26 tt h)
passive-or-p N.P h = refl
passive-or-p N.E h = absurd (miss (12 ∷ 27 ∷ []) 28 tt h)
passive-or-p N.Den h = absurd (miss (12 ∷ 27 ∷ []) 29 tt h)
passive-or-p N.W h = absurd (miss (12 ∷ 27 ∷ []) 30 tt h)
passive-or-p N.Radicand h = absurd (miss (12 ∷ 27 ∷ []) 31 tt h)
passive-or-p N.X h = absurd (miss (12 ∷ 27 ∷ []) 32 tt h)
passive-or-p N.Xi h = absurd (miss (12 ∷ 27 ∷ []) 33 tt h)
passive-or-p N.TrialTime h = absurd (miss (12 ∷ 27 ∷ []) 34 tt h)
