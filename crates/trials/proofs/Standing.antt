-- What the loop needs of a bracket: its ends on the iterator's grid and in order, low or under below and high or over above. No time
-- comes into it: a trial keeps it whatever the judge says. Assumes nothing.
use Prim.Native.Nat.{◌^◌, ◌<◌}
use mathlib.Core.Path.{◌≡◌, refl}
use mathlib.Core.Bool.{true}
use lib.IntN.{ℤ, pos, neg_ℤ}
use lib.Signed.{le_z, lt_z, ◌<ℤ◌, ◌≤ℤ◌, le_z_yes, lt_z_yes}
use lib.Ieee.{Float}
use lib.Ieee.Bits.{is_true}
use Rattle.facts.proofs.Truth.{and_0, and-1, both, of-true}
use Rattle.iterator.specs.Rule.{Grid, width_of}
use Rattle.iterator.specs.Run.{narrowed, next_point, next}
use Rattle.iterator.specs.Single.{in_grid, is_below, is_above}
use Rattle.iterator.specs.declared.Judgement.{Judgement}
use Rattle.iterator.specs.declared.Judgement.TheVariants.{Low, High, Under, Over}
use Rattle.iterator.specs.declared.Bracket.{Bracket}
use Rattle.iterator.proofs.Whole.{lt-le, le_trans}
use Rattle.iterator.proofs.Grids.{in_grid_lem}
use Rattle.iterator.proofs.Trials.{inside}

pub record Standing (s : Bracket) : Type 0 where
  pub from : neg_ℤ (pos (2 ^ 37)) ≤ℤ s.lo
  pub order : s.lo <ℤ s.hi
  pub to : s.hi ≤ℤ pos (2 ^ 37)
  pub lower : is_below s.below ≡ true
  pub upper : is_above s.above ≡ true

pub standing-in : {s : Bracket} → Standing s → in_grid s.lo s.hi ≡ true
unfolding in_grid
standing-in {s} h = both (le_z (neg_ℤ (pos (2 ^ 37))) s.lo) _ (is_true _ h.from.le) (both (lt_z s.lo s.hi) _ (is_true _ h.order.lt) (is_true _ h.to.le))

pub standing-grid : {s : Bracket} → Standing s → Grid s.lo s.hi
standing-grid {s} h = in_grid_lem s.lo s.hi (standing-in h)

pub standing : (s : Bracket) → in_grid s.lo s.hi ≡ true → is_below s.below ≡ true → is_above s.above ≡ true → Standing s
unfolding in_grid
standing s g l u =
    let g1 = and-1 (le_z (neg_ℤ (pos (2 ^ 37))) s.lo) _ g in
    record {
      from = le_z_yes (of-true (and_0 (le_z (neg_ℤ (pos (2 ^ 37))) s.lo) _ g));
      order = lt_z_yes (of-true (and_0 (lt_z s.lo s.hi) _ g1));
      to = le_z_yes (of-true (and-1 (lt_z s.lo s.hi) _ g1));
      lower = l;
      upper = u;
    }

narrowed-stands : (s : Bracket) (n : ℤ) (j : Judgement) → Standing s → s.lo <ℤ n → n <ℤ s.hi → Standing (narrowed s n j)
narrowed-stands s n (Low t) h l k = record { from = le_trans h.from (lt-le l); order = k; to = h.to; lower = refl; upper = h.upper }
narrowed-stands s n Under h l k = record { from = le_trans h.from (lt-le l); order = k; to = h.to; lower = refl; upper = h.upper }
narrowed-stands s n (High t) h l k = record { from = h.from; order = l; to = le_trans (lt-le k) h.to; lower = h.lower; upper = refl }
narrowed-stands s n Over h l k = record { from = h.from; order = l; to = le_trans (lt-le k) h.to; lower = h.lower; upper = refl }

pub next-stands : (judge : ℤ → Judgement) (asked : Float) (s : Bracket) → 1 < width_of s.lo s.hi → Standing s → Standing (next judge asked s)
next-stands judge asked s w h =
    let i = inside asked s h.order w in
    narrowed-stands s (next_point asked s) (judge (next_point asked s)) h i.0 i.1
