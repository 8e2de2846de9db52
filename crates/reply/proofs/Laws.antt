-- What a version of the settings alters of a reply. Assumes nothing.
use Rattle.std.specs.Prelude.{Result, Ok, Err}
use Prim.Native.Nat.{ℕ}
use mathlib.Core.Path.{◌≡◌, refl, sym, ap, ◌∙◌}
use mathlib.Core.List.{List}
use Rattle.graded.proofs.Laws.{standard-advance, standard-transfer}
use Rattle.graded.proofs.Laws as G
use Rattle.solutions.specs.Solutions.{advanced_pieces, transferred_pieces}
use Rattle.forms.specs.declared.Request.{Request}
use Rattle.forms.specs.declared.Request.TheVariants.{Nothing, Root, C, S, Trial, Burn}
use Rattle.forms.specs.declared.Request.TheVariants as Q
use Rattle.forms.specs.declared.Version.{Version}
use Rattle.forms.specs.declared.Version.TheVariants.{Standard, Named}
use Rattle.forms.specs.declared.Solve.{Solve}
use Rattle.forms.specs.declared.Solve.TheVariants.{Kepler, Lambert, Theta, Apsides}
use Rattle.inquiry.specs.Inquiry.{settled_by, inquiry_of}
use Rattle.reasons.specs.Lines.{reason_pieces}
use Rattle.reply.specs.Replies.{advance_asked, transfer_asked, solved_of, reply_of, line_reply}

-- the same solve by this version; two solves have no grade
unfoldable pub by : Version → Solve → Solve
by v (Kepler mu state time beginning limit version) = Kepler mu state time beginning limit v
by v (Lambert mu first second time way beginning limit version) = Lambert mu first second time way beginning limit v
by v (Theta mu state sine cosine) = Theta mu state sine cosine
by v (Apsides mu state) = Apsides mu state

-- by a version that has 01's fractions a solve is answered as it is without one
pub standard-version : (used : List ℕ) (k : ℕ) → G.Standard used k → (x : Solve) → solved_of used (by (Named k) x) ≡ solved_of used (by Standard x)
unfolding by solved_of advance_asked transfer_asked
standard-version used k h (Kepler mu state time beginning limit version) = ap advanced_pieces (standard-advance used k h mu state time limit beginning)
standard-version used k h (Lambert mu first second time way beginning limit version) =
    ap transferred_pieces (standard-transfer used k h mu first second way time limit beginning)
standard-version used k h (Theta mu state sine cosine) = refl
standard-version used k h (Apsides mu state) = refl

-- where no version is named, the settings are not looked at
abbrev pub Unversioned : Request → Type 0
Unversioned Nothing = Prim.Unit
Unversioned (Root x) = Prim.Unit
Unversioned (C xi) = Prim.Unit
Unversioned (S xi) = Prim.Unit
Unversioned (Trial asked lo hi below above k) = Prim.Unit
Unversioned (Q.Look x) = Prim.Unit
Unversioned (Q.Solve x) = x ≡ by Standard x
Unversioned (Burn body radius mu active ta passive tp t2 t3) = Prim.Unit
Unversioned (Q.Why x) = x ≡ by Standard x

abbrev pub UnversionedLine : Result Request ℕ → Type 0
UnversionedLine (Ok q) = Unversioned q
UnversionedLine (Err w) = Prim.Unit

module _ (used other : List ℕ) where
  solved-alike : (x : Solve) → solved_of used (by Standard x) ≡ solved_of other (by Standard x)
  unfolding by solved_of advance_asked transfer_asked
  solved-alike (Kepler mu state time beginning limit version) = refl
  solved-alike (Lambert mu first second time way beginning limit version) = refl
  solved-alike (Theta mu state sine cosine) = refl
  solved-alike (Apsides mu state) = refl

  asked-alike : (x : Solve) → inquiry_of used (by Standard x) ≡ inquiry_of other (by Standard x)
  unfolding by inquiry_of settled_by
  asked-alike (Kepler mu state time beginning limit version) = refl
  asked-alike (Lambert mu first second time way beginning limit version) = refl
  asked-alike (Theta mu state sine cosine) = refl
  asked-alike (Apsides mu state) = refl

  pub request-not-looked-at : (q : Request) → Unversioned q → reply_of used q ≡ reply_of other q
  request-not-looked-at Nothing h = refl
  request-not-looked-at (Root x) h = refl
  request-not-looked-at (C xi) h = refl
  request-not-looked-at (S xi) h = refl
  request-not-looked-at (Trial asked lo hi below above k) h = refl
  request-not-looked-at (Q.Look x) h = refl
  request-not-looked-at (Q.Solve x) h = ap (solved_of used) h ∙ solved-alike x ∙ ap (solved_of other) (sym h)
  request-not-looked-at (Burn body radius mu active ta passive tp t2 t3) h = refl
  request-not-looked-at (Q.Why x) h = ap reason_pieces (ap (inquiry_of used) h ∙ asked-alike x ∙ ap (inquiry_of other) (sym h))

  -- nor for a line with a word that cannot be read
  pub not-looked-at : (r : Result Request ℕ) → UnversionedLine r → line_reply used r ≡ line_reply other r
  not-looked-at (Ok q) h = request-not-looked-at q h
  not-looked-at (Err w) h = refl
