-- What may stand behind an iterated solve: `from LO JLO HI JHI COUNT`, `limit L`, `version K`, each left out or in this order, and no word more.
-- Assumes nothing: these are definitions.
use Rattle.std.specs.Prelude.{ℕ, ◌+◌, ◌-◌, ◌^◌, ◌≡◌, List, ℤ, Err, Ok, Result}
use Rattle.text.specs.Text.{ascii}
use Rattle.iterator.specs.declared.Judgement.{Judgement}
use Rattle.iterator.specs.declared.Bracket.{Bracket}
use Rattle.iterator.specs.declared.Beginning.{Beginning}
use Rattle.iterator.specs.declared.Beginning.TheVariants.{Start, Stopped}
use Rattle.forms.specs.declared.Version.{Version}
use Rattle.forms.specs.declared.Version.TheVariants.{Standard, Named}
use Rattle.forms.specs.declared.Request.{Request}
use Rattle.forms.specs.Forms.{Form, end, signed, whole, judgement, word, read_by}

-- LO JLO HI JHI COUNT
abbrev pub bracket : (Bracket → Form) → Form
bracket go =
    signed λ lo. judgement λ below. signed λ hi. judgement λ above. whole λ count.
    go (record { lo = lo; hi = hi; below = below; above = above; count = count })

abbrev pub beginning : (Beginning → Form) → Form
beginning go = word (ascii "from") (bracket λ b. go (Stopped b)) (go Start)

-- a count that no solve reaches
abbrev pub no_limit : ℕ
no_limit = 2 ^ 64 - 1

abbrev pub limit : (ℕ → Form) → Form
limit go = word (ascii "limit") (whole go) (go no_limit)

abbrev pub version : (Version → Form) → Form
version go = word (ascii "version") (whole λ k. go (Named k)) (go Standard)

abbrev pub options : (Beginning → ℕ → Version → Request) → Form
options ask = beginning λ g. limit λ l. version λ v. end (ask g l v)

-- ---- what was read says what the line asks, whatever is asked

abbrev pub behind_end : Result (ℤ × Judgement) ℕ → (ℤ → Judgement → Form) → ℕ → List ℕ → Result Request ℕ
behind_end (Ok (n, j)) go k line = read_by (go n j) k line
behind_end (Err w) go k line = Err w

abbrev pub ReadsEnd : Result (ℤ × Judgement) ℕ → ℕ → List ℕ → Type 0
ReadsEnd r k line = (go : ℤ → Judgement → Form) → read_by (signed λ n. judgement λ j. go n j) k line ≡ behind_end r go (k + 2) line

abbrev pub behind_stop : Result Bracket ℕ → (Bracket → Form) → ℕ → List ℕ → Result Request ℕ
behind_stop (Ok b) go k line = read_by (go b) k line
behind_stop (Err w) go k line = Err w

abbrev pub ReadsStop : Result Bracket ℕ → ℕ → List ℕ → Type 0
ReadsStop r k line = (go : Bracket → Form) → read_by (bracket go) k line ≡ behind_stop r go (k + 5) line

abbrev pub asked : Result (Beginning × ℕ × Version) ℕ → (Beginning → ℕ → Version → Request) → Result Request ℕ
asked (Ok (g, l, v)) ask = Ok (ask g l v)
asked (Err w) ask = Err w

abbrev pub ReadsEnded : Result (Beginning × ℕ × Version) ℕ → Beginning → ℕ → Version → ℕ → List ℕ → Type 0
ReadsEnded r g l v k line = (ask : Beginning → ℕ → Version → Request) → read_by (end (ask g l v)) k line ≡ asked r ask

abbrev pub ReadsVersion : Result (Beginning × ℕ × Version) ℕ → Beginning → ℕ → ℕ → List ℕ → Type 0
ReadsVersion r g l k line = (ask : Beginning → ℕ → Version → Request) → read_by (version λ v. end (ask g l v)) k line ≡ asked r ask

abbrev pub ReadsLimited : Result (Beginning × ℕ × Version) ℕ → Beginning → ℕ → List ℕ → Type 0
ReadsLimited r g k line = (ask : Beginning → ℕ → Version → Request) → read_by (limit λ l. version λ v. end (ask g l v)) k line ≡ asked r ask

abbrev pub ReadsOptions : Result (Beginning × ℕ × Version) ℕ → ℕ → List ℕ → Type 0
ReadsOptions r k line = (ask : Beginning → ℕ → Version → Request) → read_by (options ask) k line ≡ asked r ask
