use Rattle.std.proofs.Common.{◌≡◌, drop}
use Rattle.std.specs.List.{list_any}
use Rattle.nest_core.specs.Order.{shares_loop}
use Rattle.fuse_distribute.proofs.distribute.any_shares.Given as goal

abbrev pub invariant-loop-other : goal.invariant-loop-other
invariant-loop-other l = list_any (shares_loop l.level l.nest) (drop l.other-index l.nests) ≡ list_any (shares_loop l.level l.nest) l.nests
