-- What the desk can be asked: one table, a form for each routine. Assumes nothing: these are definitions.
use Rattle.std.specs.Prelude.{ℕ, Bool, cond, List, length, get_or, eqb, ltb, ◌≡◌, Float, Err, Ok, Result}
use Rattle.text.specs.Text.{ascii}
use Rattle.words.specs.Words.{word_at}
use Rattle.forms.specs.declared.Request.{Request}
use Rattle.forms.specs.declared.Request.TheVariants as Q
use Rattle.forms.specs.Forms.{Form, end, number, word, read_by}
use Rattle.solves.specs.Solves.{solve_form}
use Rattle.single.specs.Single.{trial_form}
use Rattle.looks.specs.Looks.{wheel_form, sight_form}
use Rattle.courses.specs.Courses.{cdh_form}

-- ---- the table

abbrev pub root_form : Form
root_form = number λ x. end (Q.Root x)

abbrev pub c_form : Form
c_form = number λ xi. end (Q.C xi)

abbrev pub s_form : Form
s_form = number λ xi. end (Q.S xi)

-- one number behind the name, whatever is asked with it
abbrev pub one_asked : Result Float ℕ → (Float → Request) → Result Request ℕ
one_asked (Ok x) ask = Ok (ask x)
one_asked (Err w) ask = Err w

abbrev pub AsksOne : Result Float ℕ → List ℕ → Type 0
AsksOne r line = (ask : Float → Request) → read_by (number λ x. end (ask x)) 1 line ≡ one_asked r ask

abbrev pub routines : Form
routines =
    word (ascii "root") root_form
    (word (ascii "c") c_form
    (word (ascii "s") s_form
    (word (ascii "trial") trial_form
    (word (ascii "wheel") wheel_form
    (word (ascii "sight") sight_form
    (word (ascii "cdh") cdh_form
    (word (ascii "why") (solve_form Q.Why) (solve_form Q.Solve))))))))

-- ---- a line

-- it starts with `#`
abbrev pub is_comment : List ℕ → Bool
is_comment line = eqb (get_or line 0 0) 35

-- a comment, or no word: nothing is asked; over 1,000 bytes: no word is read, and 0 is told
unfoldable pub request_of : List ℕ → Result Request ℕ
request_of line =
    cond (is_comment line) (Ok Q.Nothing)
    (cond (ltb 1000 (length line)) (Err 0)
    (cond (eqb (length (word_at 0 line)) 0) (Ok Q.Nothing) (read_by routines 0 line)))
