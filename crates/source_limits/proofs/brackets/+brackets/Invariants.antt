use Rattle.std.proofs.Common.{◌≤◌, ◌*◌, ◌+◌, max}
use Rattle.c_tree.specs.declared.index.Index.{size-Index}
use Rattle.c_tree.specs.declared.index.Cell.{size-Cell}
use Rattle.c_tree.specs.declared.index.Subscripts.{size-Subscripts}
use Rattle.source_limits.proofs.brackets.+brackets.Given as goal

abbrev pub invariant-brackets-loop-rest : goal.invariant-brackets-loop-rest
invariant-brackets-loop-rest l = size-Index l.rest ≤ size-Index l.e

abbrev pub decreases-brackets : goal.decreases-brackets
decreases-brackets l = 2 * size-Index l.e.now

abbrev pub decreases-part_brackets : goal.decreases-part_brackets
decreases-part_brackets l = 2 * size-Index l.e.now + 1

abbrev pub decreases-factor_brackets : goal.decreases-factor_brackets
decreases-factor_brackets l = 2 * size-Index l.e.now + 1

abbrev pub decreases-call_brackets : goal.decreases-call_brackets
decreases-call_brackets l = 2 * max (size-Index l.a.now) (size-Index l.b.now) + 1

abbrev pub decreases-cell_brackets : goal.decreases-cell_brackets
decreases-cell_brackets l = 2 * size-Cell l.cell.now

abbrev pub decreases-subscripts_brackets : goal.decreases-subscripts_brackets
decreases-subscripts_brackets l = 2 * size-Subscripts l.at.now
