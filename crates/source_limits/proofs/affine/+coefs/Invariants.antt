use Rattle.std.proofs.Common.{◌≡◌, ◌*◌, ◌+◌, length}
use Rattle.c_tree.specs.declared.index.Index.{size-Index}
use Rattle.c_tree.specs.declared.index.Cell.{size-Cell}
use Rattle.source_limits.proofs.affine.+coefs.Given as goal

abbrev pub invariant-coefs-loop-i : goal.invariant-coefs-loop-i
invariant-coefs-loop-i l = length l.sum ≡ length l.vars.names.now + length l.vars.reads.now

abbrev pub decreases-coefs : goal.decreases-coefs
decreases-coefs l = 2 * size-Index l.e.now + 1

abbrev pub decreases-part_coefs : goal.decreases-part_coefs
decreases-part_coefs l = 2 * size-Index l.e.now

abbrev pub decreases-cell_read : goal.decreases-cell_read
decreases-cell_read l = 2 * size-Cell l.cell.now
