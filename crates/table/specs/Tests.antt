-- The refusal table as a list of tests. Every test says what must hold, and refuses unless it holds; so a NaN is refused.
-- Assumes nothing: these are definitions.
use Rattle.std.specs.Prelude.{ℕ, ◌≡◌, Bool, true, false, cond, not, ◌&&◌, ◌||◌, List, [], ◌∷◌, ◌++◌, eqb, Float, Result, Ok, Err}
use Rattle.refusal.specs.declared.Refusal.{Refusal}
use Rattle.refusal.specs.Refusals.{number_of}
use Rattle.real.specs.F64.{◌⊖◌, ◌≤ᶠ◌, ◌<ᶠ◌, f1, finite, size_of}
use Rattle.table.specs.declared.Name.{Name}
use Rattle.table.specs.declared.Part.{Part}
use Rattle.table.specs.declared.Limit.{Limit}
use Rattle.table.specs.declared.Limit.TheVariants.{Finite, AtLeast, AtMost, Under, Over, SizeAtMost, SizeUnder, OneWithin}
use Rattle.table.specs.declared.Entry.{Entry as EntryOf}

-- ---- an entry, and its test

-- whose refusal is a case of `Refusal`; EntryOf R has a refusal of another type, as any number
abbrev pub Entry : Type 0
Entry = EntryOf Refusal

abbrev pub entry : {R : Type 0} → R → Name → Part → Float → Limit → EntryOf R
entry refusal name part amount limit = record { refusal = refusal; name = name; part = part; amount = amount; limit = limit }

-- whether an amount is what it must be
abbrev pub satisfies : Limit → Float → Bool
satisfies Finite x = finite x
satisfies (AtLeast b) x = b ≤ᶠ x
satisfies (AtMost b) x = x ≤ᶠ b
satisfies (Under b) x = x <ᶠ b
satisfies (Over b) x = b <ᶠ x
satisfies (SizeAtMost b) x = size_of x ≤ᶠ b
satisfies (SizeUnder b) x = size_of x <ᶠ b
satisfies (OneWithin b) x = size_of (x ⊖ f1) ≤ᶠ b

abbrev pub meets : {R : Type 0} → EntryOf R → Bool
meets e = satisfies e.limit e.amount

-- ---- a list of entries

-- the first that its amount does not meet
unfoldable pub first_failing : {R : Type 0} → List (EntryOf R) → Result Unit (EntryOf R)
first_failing [] = Ok tt
first_failing (e ∷ es) = cond (meets e) (first_failing es) (Err e)

-- every entry is met
abbrev pub all_meet : {R : Type 0} → List (EntryOf R) → Bool
all_meet [] = true
all_meet (e ∷ es) = meets e && all_meet es

-- e stands in the list, its test fails, and every test ahead of it is met
pub record Reason {R : Type 0} (es : List (EntryOf R)) (e : EntryOf R) : Type 0 where
  pub ahead : List (EntryOf R)
  pub rest : List (EntryOf R)
  pub stands : es ≡ ahead ++ (e ∷ rest)
  pub met : all_meet ahead ≡ true
  pub fails : meets e ≡ false

-- the refusal's number, and 0 where no test fails
abbrev pub test_number_by : {R : Type 0} → (R → ℕ) → Result Unit (EntryOf R) → ℕ
test_number_by number (Ok tt) = 0
test_number_by number (Err e) = number e.refusal

unfoldable pub test_number : Result Unit Entry → ℕ
test_number t = test_number_by number_of t

unfoldable pub passes : {R : Type 0} → Result Unit (EntryOf R) → Bool
passes (Ok tt) = true
passes (Err e) = false

-- as the code goes: one entry more, whose test is made already; and t, or where it passed the first of these that fails
unfoldable pub told : {R : Type 0} → Result Unit (EntryOf R) → Bool → EntryOf R → Result Unit (EntryOf R)
told (Ok u) met e = cond met (Ok tt) (Err e)
told (Err f) met e = Err f

infixl 40 ◌▷◌
abbrev pub ◌▷◌ : {R : Type 0} → Result Unit (EntryOf R) → List (EntryOf R) → Result Unit (EntryOf R)
t ▷ [] = t
t ▷ (e ∷ es) = told t (meets e) e ▷ es

-- the same entries, each refusal given as a value of another type
abbrev pub entries_by : {R : Type 0} → (Refusal → R) → List Entry → List (EntryOf R)
entries_by f [] = []
entries_by f (e ∷ es) = entry (f e.refusal) e.name e.part e.amount e.limit ∷ entries_by f es

-- ---- the table read as it stands: by the number that a refusal has, and by a refusal's own

-- a row applies if a test of it fails
abbrev pub applies_by : {R : Type 0} → (R → ℕ) → ℕ → List (EntryOf R) → Bool
applies_by number n [] = false
applies_by number n (e ∷ es) = (not (meets e) && eqb (number e.refusal) n) || applies_by number n es

-- the first of these rows that applies, and 0 where none does
unfoldable pub first_row_by : {R : Type 0} → (R → ℕ) → List ℕ → List (EntryOf R) → ℕ
first_row_by number [] es = 0
first_row_by number (n ∷ ns) es = cond (applies_by number n es) n (first_row_by number ns es)

-- the rows ahead of any trial, in the table's order
abbrev pub table_order : List ℕ
table_order = 1 ∷ 2 ∷ 3 ∷ 4 ∷ 5 ∷ 10 ∷ 6 ∷ 19 ∷ []

-- the entries behind the leading ones of row n; and that none is of row n
abbrev pub behind_row_by : {R : Type 0} → (R → ℕ) → ℕ → List (EntryOf R) → List (EntryOf R)
behind_row_by number n [] = []
behind_row_by number n (e ∷ es) = cond (eqb (number e.refusal) n) (behind_row_by number n es) (e ∷ es)

abbrev pub without_by : {R : Type 0} → (R → ℕ) → ℕ → List (EntryOf R) → Bool
without_by number n [] = true
without_by number n (e ∷ es) = not (eqb (number e.refusal) n) && without_by number n es

-- the entries of a row stand together, and the rows in this order
abbrev pub ordered_by : {R : Type 0} → (R → ℕ) → List ℕ → List (EntryOf R) → Bool
ordered_by number [] [] = true
ordered_by number [] (e ∷ es) = false
ordered_by number (n ∷ ns) es = without_by number n (behind_row_by number n es) && ordered_by number ns (behind_row_by number n es)

abbrev pub applies : ℕ → List Entry → Bool
applies n es = applies_by number_of n es

abbrev pub first_row : List ℕ → List Entry → ℕ
first_row ns es = first_row_by number_of ns es

abbrev pub behind_row : ℕ → List Entry → List Entry
behind_row n es = behind_row_by number_of n es

abbrev pub without : ℕ → List Entry → Bool
without n es = without_by number_of n es

abbrev pub ordered : List ℕ → List Entry → Bool
ordered ns es = ordered_by number_of ns es
