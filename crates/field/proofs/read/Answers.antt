-- The bytes that are there, of the eight at most that are asked for. Assumes nothing.
use Prim.Native.Nat.{ℕ, ◌+◌, ◌-◌, ◌^◌, ◌<◌, min}
use native.Mathlib.Omega.{arith}
use lib.Seq.{take_all}
use Rattle.field.proofs.Fields.{le-eight}
use mathlib.Core.Path.{◌≡◌, ap, ◌∙◌}
use lib.ListN.{length, take, drop}
use Rattle.field.specs.Bytes.{le}
use Rattle.field.proofs.Parts.{none-there, some, part, part-short, part-below}
use Rattle.field.proofs.read.Goals as goal

pub returns-then-at-s : goal.returns-then-at-s
returns-then-at-s c =
    let a = c.args in
    record { value = none-there a.s.now a.at (min a.w 8) c.if-at-s.true; upper_bound = some (min a.w 8) }

pub returns-in-Some : goal.returns-in-Some
returns-in-Some c =
    let a = c.args in
    let s = a.s.now in
    let h = c.if-at-s.false in
    let n = c.min-n.result in
    let e : n ≡ min (min a.w 8) (length s - a.at) = c.min-n.ensures ∙ ap (λ (k : ℕ). min k (length s - a.at)) c.min.ensures in
    let p = take (a.at + n - a.at) (drop a.at s) in
    let f = c.in-Some.ensures.cases in
    let l : length p ≡ 8 = omega (arith, f.enough, part-short s a.at (min a.w 8) n h e) in
    let q : c.in-Some.eight.now ≡ p = f.same ∙ take_all 8 p (omega (arith, l)) in
    let v : c.from_le_bytes.result ≡ le p = c.from_le_bytes.ensures ∙ le-eight c.in-Some.eight.now (ap length q ∙ l) ∙ ap le q in
    let b : c.from_le_bytes.result < 256 ^ length p = rw l (omega arith) in
    record { value = v ∙ ap le (part s a.at (min a.w 8) n h e); upper_bound = part-below s a.at (min a.w 8) n h e c.from_le_bytes.result b }

pub returns-in-None : goal.returns-in-None
returns-in-None c =
    let a = c.args in
    let s = a.s.now in
    let h = c.if-at-s.false in
    let n = c.min-n.result in
    let e : n ≡ min (min a.w 8) (length s - a.at) = c.min-n.ensures ∙ ap (λ (k : ℕ). min k (length s - a.at)) c.min.ensures in
    record { value = c.le_of.ensures.value ∙ ap le (part s a.at (min a.w 8) n h e); upper_bound = part-below s a.at (min a.w 8) n h e c.le_of.result c.le_of.ensures.upper_bound }
