use Rattle.std.proofs.Common.{◌≡◌, map, take}
use Rattle.fuse_distribute.specs.Fusing.{fused_positions}
use Rattle.fuse_distribute.proofs.fuse.all_positions.Given as goal

abbrev pub invariant-loop-nest : goal.invariant-loop-nest
invariant-loop-nest l = l.all ≡ map (fused_positions l.level l.place l.count l.second) (take l.nest-index l.nests)
