-- Every reply fits its room, and a line is what its pieces are. Assumes nothing.
use Rattle.std.specs.Prelude.{Result, Ok, Err}
use Prim.Native.Nat.{ℕ, ◌≤◌}
use mathlib.Core.List.{List}
use lib.ListN.{length}
use lib.Dec.{lit≤}
use Rattle.text.specs.Pieces.{concat}
use Rattle.root.specs.Root.{root_answer}
use Rattle.series.specs.Series.{c_answer, s_answer}
use Rattle.iterator.specs.Single.{single_trial_of}
use Rattle.theta.specs.Theta.{theta_of}
use Rattle.apsides.specs.Apsides.{apsides_of}
use Rattle.forms.specs.declared.Request.{Request}
use Rattle.forms.specs.declared.Request.TheVariants.{Nothing, Root, C, S, Trial, Burn}
use Rattle.forms.specs.declared.Request.TheVariants as Q
use Rattle.forms.specs.declared.Look.{Look}
use Rattle.forms.specs.declared.Look.TheVariants.{Wheel, Sight}
use Rattle.forms.specs.declared.Solve.{Solve}
use Rattle.forms.specs.declared.Solve.TheVariants.{Kepler, Lambert, Theta, Apsides}
use Rattle.columns.proofs.RowLaws.{unread-fits}
use Rattle.answers.proofs.Lengths.{answer-fits, tried-fits, timed-fits, apsides-fits}
use Rattle.solutions.proofs.Lengths.{advanced-fits, transferred-fits}
use Rattle.inquiry.specs.Inquiry.{inquiry_of}
use Rattle.reasons.proofs.Lengths.{reason-fits}
use Rattle.wheel.specs.Wheel.{wheel_of}
use Rattle.sight.specs.Sight.{sight_of}
use Rattle.views.proofs.Lengths.{wheel-fits, sight-fits}
use Rattle.burn.specs.Burn.{burn_of}
use Rattle.changes.proofs.Lengths.{burn-fits}
use Rattle.reply.specs.Replies.{reply_room, advance_asked, transfer_asked, solved_of, looked_of, reply_of, line_reply}

solved-fits : (used : List ℕ) (x : Solve) → length (concat (solved_of used x)) ≤ reply_room
unfolding solved_of
solved-fits used (Kepler mu state time beginning limit version) = advanced-fits (advance_asked used version mu state time limit beginning)
solved-fits used (Lambert mu first second time way beginning limit version) = transferred-fits (transfer_asked used version mu first second way time limit beginning)
solved-fits used (Theta mu state sine cosine) = timed-fits (theta_of mu state sine cosine)
solved-fits used (Apsides mu state) = apsides-fits (apsides_of mu state)

looked-fits : (x : Look) → length (concat (looked_of x)) ≤ reply_room
unfolding looked_of
looked-fits (Wheel e) = wheel-fits (wheel_of e)
looked-fits (Sight active passive elevation horizontal vertical) = sight-fits (sight_of active passive elevation horizontal vertical)

-- of a request that was read
pub request-fits : (used : List ℕ) (q : Request) → length (concat (reply_of used q)) ≤ reply_room
unfolding concat
request-fits used Nothing = lit≤ tt
request-fits used (Root x) = answer-fits (root_answer x)
request-fits used (C xi) = answer-fits (c_answer xi)
request-fits used (S xi) = answer-fits (s_answer xi)
request-fits used (Trial asked lo hi below above k) = tried-fits (single_trial_of asked lo hi below above k)
request-fits used (Q.Look x) = looked-fits x
request-fits used (Q.Solve x) = solved-fits used x
request-fits used (Burn body radius mu active ta passive tp t2 t3) = burn-fits (burn_of (record { body = body; radius = radius; mu = mu }) active ta passive tp t2 t3)
request-fits used (Q.Why x) = reason-fits (inquiry_of used x)

-- of every line: a request, or a word that cannot be read
pub reply-fits : (used : List ℕ) (r : Result Request ℕ) → length (concat (line_reply used r)) ≤ reply_room
reply-fits used (Ok q) = request-fits used q
reply-fits used (Err w) = unread-fits w
