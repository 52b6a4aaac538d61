use Rattle.std.proofs.Common.{◌*◌, ◌+◌}
use Rattle.c_tree.specs.declared.index.Index.{size-Index}
use Rattle.source_limits.proofs.affine.+constant.Given as goal

abbrev pub decreases-constant : goal.decreases-constant
decreases-constant l = 2 * size-Index l.e.now + 1

abbrev pub decreases-part_constant : goal.decreases-part_constant
decreases-part_constant l = 2 * size-Index l.e.now
