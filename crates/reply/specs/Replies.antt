-- What the desk replies to a line. Assumes nothing: these are definitions.
use Rattle.std.specs.Prelude.{ℕ, List, [], Float, Result, Ok, Err}
use Rattle.text.specs.Pieces.{concat}
use Rattle.columns.specs.Rows.{unread_pieces}
use Rattle.root.specs.Root.{root_answer}
use Rattle.series.specs.Series.{c_answer, s_answer}
use Rattle.iterator.specs.Single.{single_trial_of}
use Rattle.vector.specs.declared.Vector.{Vector}
use Rattle.vector.specs.declared.State.{State}
use Rattle.iterator.specs.declared.Beginning.{Beginning}
use Rattle.lambert.specs.declared.Way.{Way}
use Rattle.solve.specs.Answers.{Advanced, Transferred, advance_to, transfer_velocity_to}
use Rattle.graded.specs.Graded.{graded_advance, graded_transfer}
use Rattle.theta.specs.Theta.{theta_of}
use Rattle.apsides.specs.Apsides.{apsides_of}
use Rattle.forms.specs.declared.Request.{Request}
use Rattle.forms.specs.declared.Request.TheVariants.{Nothing, Root, C, S, Trial, Burn}
use Rattle.forms.specs.declared.Request.TheVariants as Q
use Rattle.forms.specs.declared.Look.{Look}
use Rattle.forms.specs.declared.Look.TheVariants.{Wheel, Sight}
use Rattle.forms.specs.declared.Version.{Version}
use Rattle.forms.specs.declared.Version.TheVariants.{Standard, Named}
use Rattle.forms.specs.declared.Solve.{Solve}
use Rattle.forms.specs.declared.Solve.TheVariants.{Kepler, Lambert, Theta, Apsides}
use Rattle.requests.specs.Requests.{request_of}
use Rattle.answers.specs.Answers.{answer_pieces, tried_pieces, timed_pieces, apsides_pieces}
use Rattle.solutions.specs.Solutions.{advanced_pieces, transferred_pieces}
use Rattle.inquiry.specs.Inquiry.{inquiry_of}
use Rattle.reasons.specs.Lines.{reason_pieces}
use Rattle.wheel.specs.Wheel.{wheel_of}
use Rattle.sight.specs.Sight.{sight_of}
use Rattle.views.specs.Views.{wheel_pieces, sight_pieces}
use Rattle.burn.specs.Burn.{burn_of}
use Rattle.changes.specs.Changes.{burn_pieces}

-- the bytes that hold every line
abbrev pub reply_room : ℕ
reply_room = 512

-- by 01's fractions, or by those of a version of the settings in their used part
unfoldable pub advance_asked : List ℕ → Version → Float → State → Float → ℕ → Beginning → Advanced
advance_asked used Standard mu state time limit beginning = advance_to mu state time limit beginning
advance_asked used (Named k) mu state time limit beginning = graded_advance used k mu state time limit beginning

unfoldable pub transfer_asked : List ℕ → Version → Float → Vector → Vector → Way → Float → ℕ → Beginning → Transferred
transfer_asked used Standard mu first second way time limit beginning = transfer_velocity_to mu first second way time limit beginning
transfer_asked used (Named k) mu first second way time limit beginning = graded_transfer used k mu first second way time limit beginning

-- the routine's own answer, as a line
unfoldable pub solved_of : List ℕ → Solve → List (List ℕ)
solved_of used (Kepler mu state time beginning limit version) = advanced_pieces (advance_asked used version mu state time limit beginning)
solved_of used (Lambert mu first second time way beginning limit version) =
    transferred_pieces (transfer_asked used version mu first second way time limit beginning)
solved_of used (Theta mu state sine cosine) = timed_pieces (theta_of mu state sine cosine)
solved_of used (Apsides mu state) = apsides_pieces (apsides_of mu state)

unfoldable pub looked_of : Look → List (List ℕ)
looked_of (Wheel e) = wheel_pieces (wheel_of e)
looked_of (Sight active passive elevation horizontal vertical) = sight_pieces (sight_of active passive elevation horizontal vertical)

-- and nothing where nothing is asked
abbrev pub reply_of : List ℕ → Request → List (List ℕ)
reply_of used Nothing = []
reply_of used (Root x) = answer_pieces (root_answer x)
reply_of used (C xi) = answer_pieces (c_answer xi)
reply_of used (S xi) = answer_pieces (s_answer xi)
reply_of used (Trial asked lo hi below above k) = tried_pieces (single_trial_of asked lo hi below above k)
reply_of used (Q.Look x) = looked_of x
reply_of used (Q.Solve x) = solved_of used x
reply_of used (Burn body radius mu active ta passive tp t2 t3) =
    burn_pieces (burn_of (record { body = body; radius = radius; mu = mu }) active ta passive tp t2 t3)
reply_of used (Q.Why x) = reason_pieces (inquiry_of used x)

-- a request answered, or the word that cannot be read
abbrev pub line_reply : List ℕ → Result Request ℕ → List (List ℕ)
line_reply used (Ok request) = reply_of used request
line_reply used (Err w) = unread_pieces w

abbrev pub reply_text : List ℕ → List ℕ → List ℕ
reply_text used line = concat (line_reply used (request_of line))
