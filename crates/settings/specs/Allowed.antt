-- What a setting may be: its tests, in the order of document 02. Assumes nothing: these are definitions.
use Rattle.std.specs.Prelude.{ℕ, cond, List, [], ◌∷◌, ◌++◌, ltb, Float, None, Option, Some, Result, Ok, Err}
use Rattle.refusal.specs.declared.Refusal.{Refusal}
use Rattle.real.specs.F64.{f0, f1}
use Rattle.table.specs.declared.Name.{Name}
use Rattle.table.specs.declared.Name.TheVariants.{Mu, Radius, Closed, Fair}
use Rattle.table.specs.declared.Part.TheVariants.{Whole}
use Rattle.table.specs.declared.Limit.TheVariants.{AtLeast, AtMost}
use Rattle.table.specs.Tests.{Entry, entry, first_failing}
use Rattle.rows.specs.Rows.{finite_number, mu_row, radius_row}
use Rattle.settings.specs.declared.allowed.Setting.{Setting}

-- 1: a number is infinite or not a number
abbrev pub finite_row : Setting → List Entry
finite_row x =
    finite_number Mu x.mu ++ finite_number Radius x.radius ++ finite_number Closed x.closed
    ++ finite_number Fair x.fair

-- 22: a fraction not in 0..1
abbrev pub fraction_row : Name → Float → List Entry
fraction_row name x = entry Refusal.SettingOutOfRange name Whole x (AtLeast f0) ∷ entry Refusal.SettingOutOfRange name Whole x (AtMost f1) ∷ []

-- 22: a fraction not in 0..1, or the first larger than the second
abbrev pub fractions_row : Float → Float → List Entry
fractions_row closed fair =
    fraction_row Closed closed ++ fraction_row Fair fair ++ (entry Refusal.SettingOutOfRange Closed Whole closed (AtMost fair) ∷ [])

-- rows 1, 2 and 22
abbrev pub setting_tests : Setting → List Entry
setting_tests x = finite_row x ++ mu_row x.mu ++ fractions_row x.closed x.fair ++ radius_row x.radius

-- 14: a body not 0 or 1
unfoldable pub refusal_by : Result Unit Entry → ℕ → Option Refusal
refusal_by (Ok u) body = cond (ltb 1 body) (Some Refusal.NotAllowed) None
refusal_by (Err e) body = Some e.refusal

-- why a setting is refused, and None for one that is allowed
abbrev pub refusal_of : Setting → Option Refusal
refusal_of x = refusal_by (first_failing (setting_tests x)) x.body
