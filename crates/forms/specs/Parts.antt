-- What a part that was read says of the form that begins with it, whatever follows. Assumes nothing: these are definitions.
use Rattle.std.specs.Prelude.{ℕ, ◌+◌, ◌≡◌, List, [], ◌∷◌, length, ℤ, Float, Err, Ok, Result, None, Option, Some}
use Rattle.words.specs.Words.{word_at}
use Rattle.numerals.specs.Numbers.{word_number}
use Rattle.iterator.specs.declared.Judgement.{Judgement}
use Rattle.forms.specs.declared.Request.{Request}
use Rattle.forms.specs.Forms.{Form, end, signed, judgement, numbers, read_by}

-- numbers: each was read, or w is the number of the first word that is none
abbrev pub where_read : Result Unit ℕ → Result Request ℕ → Result Request ℕ
where_read (Ok tt) all = all
where_read (Err w) all = Err w

abbrev pub Numbers : List Float → ℕ → Result Unit ℕ → List ℕ → Type 0
Numbers xs k r line =
    (go : List Float → Form) → read_by (numbers (length xs) go) k line ≡ where_read r (read_by (go xs) (k + length xs) line)

-- what a lent slice holds after that: the numbers up to the first word that is none, and from there on what it held
abbrev pub filled_from : Option Float → List Float → List Float → List Float
filled_from (Some x) held rest = x ∷ rest
filled_from None held rest = held

abbrev pub filled : ℕ → List ℕ → List Float → List Float
filled k line [] = []
filled k line (x ∷ xs) = filled_from (word_number (word_at k line)) (x ∷ xs) (filled (k + 1) line xs)

-- and no word more
abbrev pub OnlyNumbers : List Float → ℕ → Result Unit ℕ → List ℕ → Type 0
OnlyNumbers xs k r line =
    (go : List Float → Request) → read_by (numbers (length xs) λ ys. end (go ys)) k line ≡ where_read r (Ok (go xs))

-- n numbers
abbrev pub behind_numbers : Result (List Float) ℕ → (List Float → Form) → ℕ → List ℕ → Result Request ℕ
behind_numbers (Ok xs) go k line = read_by (go xs) k line
behind_numbers (Err w) go k line = Err w

abbrev pub ReadsNumbers : ℕ → Result (List Float) ℕ → ℕ → List ℕ → Type 0
ReadsNumbers n r k line = (go : List Float → Form) → read_by (numbers n go) k line ≡ behind_numbers r go (k + n) line

-- and no word more
abbrev pub asked : Result (List Float) ℕ → (List Float → Request) → Result Request ℕ
asked (Ok xs) ask = Ok (ask xs)
asked (Err w) ask = Err w

abbrev pub ReadsOnly : ℕ → Result (List Float) ℕ → ℕ → List ℕ → Type 0
ReadsOnly n r k line = (ask : List Float → Request) → read_by (numbers n λ xs. end (ask xs)) k line ≡ asked r ask

abbrev pub behind_ends : Result (ℤ × ℤ) ℕ → (ℤ → ℤ → Form) → ℕ → List ℕ → Result Request ℕ
behind_ends (Ok (lo, hi)) go k line = read_by (go lo hi) k line
behind_ends (Err j) go k line = Err j

abbrev pub ReadsEnds : Result (ℤ × ℤ) ℕ → ℕ → List ℕ → Type 0
ReadsEnds r k line = (go : ℤ → ℤ → Form) → read_by (signed λ lo. signed λ hi. go lo hi) k line ≡ behind_ends r go (k + 2) line

abbrev pub behind_sides : Result (Judgement × Judgement) ℕ → (Judgement → Judgement → Form) → ℕ → List ℕ → Result Request ℕ
behind_sides (Ok (below, above)) go k line = read_by (go below above) k line
behind_sides (Err j) go k line = Err j

abbrev pub ReadsSides : Result (Judgement × Judgement) ℕ → ℕ → List ℕ → Type 0
ReadsSides r k line =
    (go : Judgement → Judgement → Form) → read_by (judgement λ below. judgement λ above. go below above) k line ≡ behind_sides r go (k + 2) line
