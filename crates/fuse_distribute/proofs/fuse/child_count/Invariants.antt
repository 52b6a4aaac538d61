use Rattle.std.proofs.Common.{◌≡◌, ◌≤◌, drop}
use Rattle.fuse_distribute.specs.Fusing.{child_count}
use Rattle.fuse_distribute.proofs.fuse.child_count.Given as goal

abbrev pub invariant-loop-other : goal.invariant-loop-other
invariant-loop-other l = record {
  rest : child_count l.found l.level l.nest (drop l.other-index l.nests) ≡ child_count 0 l.level l.nest l.nests;
  small : l.found ≤ 65;
}
