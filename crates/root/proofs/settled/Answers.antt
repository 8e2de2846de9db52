-- `root::settled` meets its contract. Assumes nothing.
use Rattle.root.proofs.Settle.{left, few, low, high, by-root}
use Rattle.root.proofs.settled.Goals as goal

pub returns-then-q-v : goal.returns-then-q-v
returns-then-q-v c =
    let p = c.requires in
    let e = c.wrapping_sub_u64-d.ensures.value in
    let f = c.wrapping_sub_u64-v.ensures.value in
    let g = c.wrapping_sub_u64-over.ensures.value in
    let t = c.if-e-d-eq0.true in
    high c.args.a _ _ p.0 (left _ _ _ _ _ _ _ p.0 p.1 p.2 p.3 e f g t) c.if-q-v.true (few _ _ _ _ _ _ _ p.0 p.1 p.2 p.3 e f g t)

pub returns-then-e-d-eq0 : goal.returns-then-e-d-eq0
returns-then-e-d-eq0 c =
    let p = c.requires in
    let e = c.wrapping_sub_u64-d.ensures.value in
    let f = c.wrapping_sub_u64-v.ensures.value in
    let g = c.wrapping_sub_u64-over.ensures.value in
    let t = c.if-e-d-eq0.true in
    low c.args.a _ _ p.0 (left _ _ _ _ _ _ _ p.0 p.1 p.2 p.3 e f g t) c.if-q-v.false

pub returns : goal.returns
returns c =
    by-root c.args.a c.by_digits.result c.requires.0 c.by_digits.ensures
