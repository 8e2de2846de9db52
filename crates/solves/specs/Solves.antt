-- What a solve's line holds behind its name: a form for each, whatever is asked of the solve. Assumes nothing: these are definitions.
use Rattle.std.specs.Prelude.{ℕ, ◌≡◌, List, Float, Err, Ok, Result}
use Rattle.text.specs.Text.{ascii}
use Rattle.vector.specs.declared.Vector.{Vector}
use Rattle.vector.specs.declared.State.{State}
use Rattle.vector.specs.Vectors.{state_of}
use Rattle.lambert.specs.declared.Way.{Way}
use Rattle.lambert.specs.declared.Way.TheVariants.{Short, Long, Normal}
use Rattle.forms.specs.declared.Request.{Request}
use Rattle.forms.specs.declared.Solve.{Solve}
use Rattle.forms.specs.declared.Solve.TheVariants.{Kepler, Lambert, Theta, Apsides}
use Rattle.forms.specs.Forms.{Form, end, number, word, none, read_by}
use Rattle.options.specs.Options.{options}

-- ---- parts

abbrev pub vector : (Vector → Form) → Form
vector go = number λ x. number λ y. number λ z. go (record { x = x; y = y; z = z })

-- mu, and two vectors
abbrev pub three : (Float → Vector → Vector → Form) → Form
three go = number λ mu. vector λ a. vector λ b. go mu a b

-- mu, a position and a velocity
abbrev pub orbit : (Float → State → Form) → Form
orbit go = three λ mu r v. go mu (state_of r v)

abbrev pub way : (Way → Form) → Form
way go = word (ascii "short") (go Short) (word (ascii "long") (go Long) (word (ascii "normal") (vector λ n. go (Normal n)) none))

-- ---- the table; `ask` makes the request

abbrev pub kepler_form : (Solve → Request) → Form
kepler_form ask = orbit λ mu state. number λ time. options λ g l v. ask (Kepler mu state time g l v)

abbrev pub lambert_form : (Solve → Request) → Form
lambert_form ask = three λ mu first second. number λ time. way λ w. options λ g l v. ask (Lambert mu first second time w g l v)

abbrev pub theta_form : (Solve → Request) → Form
theta_form ask = orbit λ mu state. number λ sine. number λ cosine. end (ask (Theta mu state sine cosine))

abbrev pub apsides_form : (Solve → Request) → Form
apsides_form ask = orbit λ mu state. end (ask (Apsides mu state))

abbrev pub solve_form : (Solve → Request) → Form
solve_form ask =
    word (ascii "kepler") (kepler_form ask)
    (word (ascii "lambert") (lambert_form ask)
    (word (ascii "theta") (theta_form ask)
    (word (ascii "apsides") (apsides_form ask) none)))

-- ---- what was read says what the line asks, whatever is asked of the solve

abbrev pub asked : Result Solve ℕ → (Solve → Request) → Result Request ℕ
asked (Ok x) ask = Ok (ask x)
asked (Err w) ask = Err w

abbrev pub Gives : ((Solve → Request) → Form) → Result Solve ℕ → ℕ → List ℕ → Type 0
Gives form r k line = (ask : Solve → Request) → read_by (form ask) k line ≡ asked r ask

abbrev pub behind_way : Result (Way × ℕ) ℕ → (Way → Form) → List ℕ → Result Request ℕ
behind_way (Ok (w, k)) go line = read_by (go w) k line
behind_way (Err k) go line = Err k

abbrev pub ReadsNormal : Result (Way × ℕ) ℕ → ℕ → List ℕ → Type 0
ReadsNormal r k line = (go : Way → Form) → read_by (vector λ n. go (Normal n)) k line ≡ behind_way r go line

abbrev pub ReadsWay : Result (Way × ℕ) ℕ → ℕ → List ℕ → Type 0
ReadsWay r k line = (go : Way → Form) → read_by (way go) k line ≡ behind_way r go line
