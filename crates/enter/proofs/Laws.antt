-- What its field cannot hold is not allowed. Assumes nothing.
use Prim.Native.Nat.{ℕ, ◌<◌}
use native.Mathlib.Omega.{arith}
use mathlib.Core.Path.{◌≡◌, refl, sym}
use mathlib.Core.Bool.{Bool, true, false, ◌&&◌, true≢false}
use lib.Dec.{leb, eqb}
use lib.IntN.{ℤ, pos, negsuc}
use lib.Signed.{mag, lt_z}
use mir.Syntax.{w16}
use mir.Val.{SFits}
use borrow.Author.Tests.{lt-leb, ltb-true, ltb-false}
use Rattle.session.specs.declared.record.Record.{Record}
use Rattle.session.specs.declared.record.Record.TheVariants as R
use Rattle.session.specs.Kinds.{top_of}
use Rattle.session.specs.Limits.{time_allowed, offset_allowed}
use Rattle.session.specs.Layout.{kind_in, vehicle_in, byte_in, time_in, numbers_in, all_finite}
use Rattle.session.specs.Decode.{allowed_in}
use Rattle.session.proofs.Limits.{offset-small}
use Rattle.writer.specs.Write.{offset_may}

first-not : (a b c d : Bool) → a ≡ false → a && b && c && d ≡ false
first-not a b c d h = rw h refl

second-not : (a b c d : Bool) → b ≡ false → a && b && c && d ≡ false
second-not true b c d h = rw h refl
second-not false b c d h = refl

pub wide-vehicle : (r : Record) → 255 < vehicle_in r → allowed_in r ≡ false
wide-vehicle r h =
    first-not (leb (vehicle_in r) 1) (leb (byte_in r) (top_of (kind_in r))) (time_allowed (time_in r)) (all_finite (numbers_in r)) (lt-leb (vehicle_in r) 1 (omega arith))

byte-not : (r : Record) → 255 < byte_in r → leb (byte_in r) (top_of (kind_in r)) ≡ false
byte-not (R.State r) h = lt-leb r.body 1 (omega arith)
byte-not (R.Burn r) h = let x : ⊥ = omega arith in absurd x
byte-not (R.Mark r) h = let x : ⊥ = omega arith in absurd x

pub wide-body : (r : Record) → 255 < byte_in r → allowed_in r ≡ false
wide-body r h =
    second-not (leb (vehicle_in r) 1) (leb (byte_in r) (top_of (kind_in r))) (time_allowed (time_in r)) (all_finite (numbers_in r)) (byte-not r h)

and-false : (a : Bool) → a && false ≡ false
and-false true = refl
and-false false = refl

offset-not : (at : ℕ) (z : ℤ) (b : Bool) → offset_allowed z ≡ b → 840 < mag z → eqb at 0 && b ≡ false
offset-not at z true e h = let x : ⊥ = omega (arith, offset-small z e) in absurd x
offset-not at z false e h = and-false (eqb at 0)

-- an offset that 16 bits cannot hold
pub far-below : (at : ℕ) (z : ℤ) → lt_z z (negsuc 32767) ≡ true → offset_may at z ≡ false
far-below at (pos n) h = absurd (true≢false (sym h))
far-below at (negsuc n) h = offset-not at (negsuc n) (offset_allowed (negsuc n)) refl (omega (arith, ltb-true 32767 n h))

pub far-above : (at : ℕ) (z : ℤ) → lt_z (pos 32767) z ≡ true → offset_may at z ≡ false
far-above at (pos n) h = offset-not at (pos n) (offset_allowed (pos n)) refl (omega (arith, ltb-true 32767 n h))
far-above at (negsuc n) h = absurd (true≢false (sym h))

pub near : (z : ℤ) → lt_z z (negsuc 32767) ≡ false → lt_z (pos 32767) z ≡ false → SFits w16 z
near (pos n) h g = record { sfits = omega (arith, ltb-false 32767 n g) }
near (negsuc n) h g = record { sfits = omega (arith, ltb-false 32767 n h) }
