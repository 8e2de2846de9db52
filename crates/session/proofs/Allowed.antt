-- Every decoded record is allowed and is held, so that its bytes decode to it again: once over the kind. Assumes nothing.
use Rattle.std.specs.Prelude.{Err, Ok, Result}
use Rattle.refusal.specs.declared.Refusal.{Refusal}
use Prim.Native.Nat.{ℕ, zero, suc, ◌+◌, ◌≤◌}
use native.Mathlib.Omega.{arith}
use mathlib.Core.Path.{◌≡◌, refl, sym, ap, ◌∙◌}
use mathlib.Core.List.{List}
use mathlib.Core.Bool.{Bool, true, ◌&&◌}
use lib.ListN.{length}
use lib.Dec.{leb}
use lib.Ieee.{binary64}
use lib.Ieee.Bits.{of_bits-fits}
use mir.Syntax.{w64}
use mir.Val.{SFits}
use mir.Facts.{sfits_to_z}
use borrow.Author.Tests.{le-leb}
use Rattle.session.specs.declared.record.Kind.{Kind}
use Rattle.session.specs.declared.record.Kind.TheVariants.{State, Burn, Mark}
use Rattle.session.specs.declared.record.Record.{Record}
use Rattle.session.specs.declared.record.Decoded.TheVariants.{Whole}
use Rattle.field.specs.Bytes.{field}
use Rattle.session.specs.Kinds.{count_of, top_of}
use Rattle.session.specs.Limits.{time_allowed}
use Rattle.session.specs.Layout.{vehicle_at, byte_at, time_at, bits_at, numbers_from, all_finite, record_at}
use Rattle.session.specs.Decode.{allowed_at, allowed_in, head_of, decoded, decode_of, AllFit, Held}
use Rattle.session.proofs.Table.{length-law}
use Rattle.session.proofs.Heads.{Holds, good-head}
use Rattle.field.proofs.Bytes.{Bytes}
use Rattle.session.proofs.WriteBack.{field_below}

module _ (s : List ℕ) where
  allowed_at_lem : (k : Kind) → Holds k s → allowed_at k s ≡ true
  allowed_at_lem k h =
      ap (λ (b : Bool). b && leb (byte_at s) (top_of k) && time_allowed (time_at s) && all_finite (numbers_from 0 (count_of k) s)) (le-leb (vehicle_at s) 1 h.vehicle)
      ∙ ap (λ (b : Bool). b && time_allowed (time_at s) && all_finite (numbers_from 0 (count_of k) s)) (le-leb (byte_at s) (top_of k) h.byte)
      ∙ ap (λ (b : Bool). b && all_finite (numbers_from 0 (count_of k) s)) h.time
      ∙ h.numbers

  own-allowed : (k : Kind) → byte_at s ≤ top_of k → allowed_in (record_at k s) ≡ allowed_at k s
  unfolding numbers_from
  own-allowed State h = refl
  own-allowed Burn h = let z : 0 ≡ byte_at s = omega arith in ap (λ (b : ℕ). leb (vehicle_at s) 1 && leb b 0 && time_allowed (time_at s) && all_finite (numbers_from 0 3 s)) z
  own-allowed Mark h = let z : 0 ≡ byte_at s = omega arith in ap (λ (b : ℕ). leb (vehicle_at s) 1 && leb b 0 && time_allowed (time_at s) && all_finite (numbers_from 0 2 s)) z

  -- what is read from bits fits
  all_fit : (i n : ℕ) → AllFit (numbers_from i n s)
  unfolding numbers_from
  all_fit i zero = tt
  all_fit i (suc n) = (of_bits-fits binary64 (bits_at s i), all_fit (i + 1) n)

  own_held : (k : Kind) → SFits w64 (time_at s) → Held (record_at k s)
  unfolding numbers_from
  own_held State h = record { time = h; numbers = all_fit 0 6 }
  own_held Burn h = record { time = h; numbers = all_fit 0 3 }
  own_held Mark h = record { time = h; numbers = all_fit 0 2 }

  module _ (bytes : Bytes s) where
    head-held : (h : Result Kind Refusal) (r : Record) (n : ℕ) → h ≡ head_of s → decoded h s ≡ Whole r n → (allowed_in r ≡ true) × Held r
    head-held (Ok k) r n e p =
        let x : record_at k s ≡ r = cc in
        let h = good-head s k (sym e) in
        let l : 6 + 8 ≤ length s = omega (arith, h.size, length-law k) in
        let f : SFits w64 (time_at s) = sfits_to_z {w = w64} {n = field 6 8 s} (record { fits = field_below s bytes 6 8 l }) in
        rw (← x) (own-allowed k h.byte ∙ allowed_at_lem k h, own_held k f)
    head-held (Err x) r n e p = let z : ◌≡◌ {A = ℕ} 0 1 = cc in let w : ⊥ = omega arith in absurd w

    pub decoded-allowed : (r : Record) (n : ℕ) → decode_of s ≡ Whole r n → (allowed_in r ≡ true) × Held r
    decoded-allowed r n p = head-held (head_of s) r n refl p
