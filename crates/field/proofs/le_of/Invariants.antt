-- What is summed is the number of the bytes that have been read, from the last one on. Assumes nothing.
use Prim.Native.Nat.{◌≤◌, ◌<◌, ◌-◌, ◌^◌}
use mathlib.Core.Path.{◌≡◌}
use lib.ListN.{length, drop}
use Rattle.field.specs.Bytes.{le}
use Rattle.field.proofs.le_of.Given as goal

abbrev pub invariant-loop-b : goal.invariant-loop-b
invariant-loop-b l = record {
  can_next : (goal.iterator-loop-b).can_next l.b-iterator;
  is_finite : (goal.iterator-loop-b).is_finite l.b-iterator;
  inside : length l.yielded ≤ length l.p;
  short : length l.p ≤ 8;
  value : l.v ≡ le (drop (length l.p - length l.yielded) l.p);
  below : l.v < 256 ^ length l.yielded;
}
