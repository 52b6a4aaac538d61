use Rattle.std.proofs.Common.{◌≡◌, map, take}
use Rattle.fuse_distribute.specs.Fusing.{in_either}
use Rattle.fuse_distribute.proofs.fuse.in_either.Given as goal

abbrev pub invariant-loop-nest : goal.invariant-loop-nest
invariant-loop-nest l = l.applies ≡ map (in_either l.level l.first l.second) (take l.nest-index l.nests)
