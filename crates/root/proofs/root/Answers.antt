-- `root::root` meets its contract: its answer is told by whether the √ is below the infinity. Assumes nothing.
use Rattle.std.proofs.Common.{T, sym, subst}
use Rattle.root.proofs.Near.{answered, refused}
use Rattle.root.proofs.root.Goals as goal

pub returns-then-r : goal.returns-then-r
returns-then-r c = answered c.args.x _ c.square_root-r.ensures c.if-r.true

pub returns : goal.returns
returns c =
    refused c.args.x _ (subst T (sym c.well_formed.0.1) tt) c.square_root-r.ensures c.if-r.false
