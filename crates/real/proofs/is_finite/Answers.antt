-- `real::is_finite` meets its contract: 1 / 0 is the infinity, and only a finite value lies between the two infinities. Assumes nothing.
use Rattle.std.proofs.Common.{◌≡◌, true, false, sym, refl}
use lib.Ieee.{Float, nan, inf, fin, lt, neg, div, of_bits}
use Rattle.real.specs.F64.{◌⊘◌, f0, f1, finite}
use Rattle.real.proofs.is_finite.Goals as goal

inside : (x : Float) → lt (neg (f1 ⊘ f0)) x ≡ true → lt x (f1 ⊘ f0) ≡ finite x
unfolding lt neg div of_bits
inside nan h = refl
inside (inf true) h = sym h
inside (inf false) h = refl
inside (fin s m e) h = refl

below : (x : Float) → lt (neg (f1 ⊘ f0)) x ≡ false → false ≡ finite x
unfolding lt neg div of_bits
below nan h = refl
below (inf s) h = refl
below (fin s m e) h = sym h

pub returns-then-top-x : goal.returns-then-top-x
returns-then-top-x c = inside _ c.if-top-x.true

pub returns-else-top-x : goal.returns-else-top-x
returns-else-top-x c = below _ c.if-top-x.false
