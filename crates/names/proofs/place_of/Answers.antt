-- By the name. Assumes nothing.
use mathlib.Core.Path.{refl}
use Rattle.words.specs.Words.{word_at, from_word, from, up_to, is_of}
use Rattle.names.specs.Names.{word_text}
use Rattle.names.proofs.Shared.{first-or-active, passive-or-p}
use Rattle.names.proofs.place_of.Goals as goal

pub returns-in-Mu : goal.returns-in-Mu
unfolding word_text word_at from_word from up_to is_of
returns-in-Mu c = rw c.in-Mu.is refl

pub returns-in-Position : goal.returns-in-Position
unfolding word_text word_at from_word from up_to is_of
returns-in-Position c = rw c.in-Position.is refl

pub returns-in-Velocity : goal.returns-in-Velocity
unfolding word_text word_at from_word from up_to is_of
returns-in-Velocity c = rw c.in-Velocity.is refl

pub returns-in-First : goal.returns-in-First
unfolding word_at from_word from up_to is_of
returns-in-First c = first-or-active c.args.n c.in-First.in-First-own.keys4

pub returns-in-Second : goal.returns-in-Second
unfolding word_text word_at from_word from up_to is_of
returns-in-Second c = rw c.in-Second.is refl

pub returns-in-Normal : goal.returns-in-Normal
unfolding word_text word_at from_word from up_to is_of
returns-in-Normal c = rw c.in-Normal.is refl

pub returns-in-Time : goal.returns-in-Time
unfolding word_text word_at from_word from up_to is_of
returns-in-Time c = rw c.in-Time.is refl

pub returns-in-Sin : goal.returns-in-Sin
unfolding word_text word_at from_word from up_to is_of
returns-in-Sin c = rw c.in-Sin.is refl

pub returns-in-Cos : goal.returns-in-Cos
unfolding word_text word_at from_word from up_to is_of
returns-in-Cos c = rw c.in-Cos.is refl

pub returns-in-Lo : goal.returns-in-Lo
unfolding word_text word_at from_word from up_to is_of
returns-in-Lo c = rw c.in-Lo.is refl

pub returns-in-Hi : goal.returns-in-Hi
unfolding word_text word_at from_word from up_to is_of
returns-in-Hi c = rw c.in-Hi.is refl

pub returns-in-Passive : goal.returns-in-Passive
unfolding word_at from_word from up_to is_of
returns-in-Passive c = passive-or-p c.args.n c.in-Passive.in-Passive-own.keys12

pub returns-in-Elevation : goal.returns-in-Elevation
unfolding word_text word_at from_word from up_to is_of
returns-in-Elevation c = rw c.in-Elevation.is refl

pub returns-in-Horizontal : goal.returns-in-Horizontal
unfolding word_text word_at from_word from up_to is_of
returns-in-Horizontal c = rw c.in-Horizontal.is refl

pub returns-in-Vertical : goal.returns-in-Vertical
unfolding word_text word_at from_word from up_to is_of
returns-in-Vertical c = rw c.in-Vertical.is refl

pub returns-in-Radius : goal.returns-in-Radius
unfolding word_text word_at from_word from up_to is_of
returns-in-Radius c = rw c.in-Radius.is refl

pub returns-in-Closed : goal.returns-in-Closed
unfolding word_text word_at from_word from up_to is_of
returns-in-Closed c = rw c.in-Closed.is refl

pub returns-in-Fair : goal.returns-in-Fair
unfolding word_text word_at from_word from up_to is_of
returns-in-Fair c = rw c.in-Fair.is refl

pub returns-in-Cross : goal.returns-in-Cross
unfolding word_text word_at from_word from up_to is_of
returns-in-Cross c = rw c.in-Cross.is refl

pub returns-in-Versine : goal.returns-in-Versine
unfolding word_text word_at from_word from up_to is_of
returns-in-Versine c = rw c.in-Versine.is refl

pub returns-in-Excess : goal.returns-in-Excess
unfolding word_text word_at from_word from up_to is_of
returns-in-Excess c = rw c.in-Excess.is refl

pub returns-in-C1 : goal.returns-in-C1
unfolding word_text word_at from_word from up_to is_of
returns-in-C1 c = rw c.in-C1.is refl

pub returns-in-C2 : goal.returns-in-C2
unfolding word_text word_at from_word from up_to is_of
returns-in-C2 c = rw c.in-C2.is refl

pub returns-in-Ratio : goal.returns-in-Ratio
unfolding word_text word_at from_word from up_to is_of
returns-in-Ratio c = rw c.in-Ratio.is refl

pub returns-in-Cothalf : goal.returns-in-Cothalf
unfolding word_text word_at from_word from up_to is_of
returns-in-Cothalf c = rw c.in-Cothalf.is refl

pub returns-in-Cot : goal.returns-in-Cot
unfolding word_text word_at from_word from up_to is_of
returns-in-Cot c = rw c.in-Cot.is refl

pub returns-in-E : goal.returns-in-E
unfolding word_text word_at from_word from up_to is_of
returns-in-E c = rw c.in-E.is refl

pub returns-in-Den : goal.returns-in-Den
unfolding word_text word_at from_word from up_to is_of
returns-in-Den c = rw c.in-Den.is refl

pub returns-in-W : goal.returns-in-W
unfolding word_text word_at from_word from up_to is_of
returns-in-W c = rw c.in-W.is refl

pub returns-in-Radicand : goal.returns-in-Radicand
unfolding word_text word_at from_word from up_to is_of
returns-in-Radicand c = rw c.in-Radicand.is refl

pub returns-in-X : goal.returns-in-X
unfolding word_text word_at from_word from up_to is_of
returns-in-X c = rw c.in-X.is refl

pub returns-in-Xi : goal.returns-in-Xi
unfolding word_text word_at from_word from up_to is_of
returns-in-Xi c = rw c.in-Xi.is refl

pub returns-in-TrialTime : goal.returns-in-TrialTime
unfolding word_text word_at from_word from up_to is_of
returns-in-TrialTime c = rw c.in-TrialTime.is refl
