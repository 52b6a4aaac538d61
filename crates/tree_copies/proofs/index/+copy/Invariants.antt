use Rattle.std.proofs.Common.{◌≡◌, ◌*◌, ◌+◌, max, length}
use Rattle.std.specs.Prelude.{IsTrue}
use Rattle.std.specs.List.{list_all}
use Rattle.c_tree.specs.declared.index.Index.{size-Index}
use Rattle.c_tree.specs.declared.index.Cell.{size-Cell}
use Rattle.c_tree.specs.declared.index.Subscripts.{size-Subscripts}
use Rattle.tree_copies.specs.Sums.{applied, linked, is_at_most}
use Rattle.tree_copies.proofs.index.+copy.Given as goal

abbrev pub decreases-copy_index : goal.decreases-copy_index
decreases-copy_index l = 3 * size-Index l.e.now

abbrev pub decreases-copy_boxed : goal.decreases-copy_boxed
decreases-copy_boxed l = 3 * size-Index l.e.now + 1

abbrev pub decreases-copy_sum : goal.decreases-copy_sum
decreases-copy_sum l = 3 * max (size-Index l.left.now) (size-Index l.right.now) + 1

abbrev pub decreases-copy_cell : goal.decreases-copy_cell
decreases-copy_cell l = 3 * size-Cell l.cell.now

abbrev pub decreases-copy_subscripts : goal.decreases-copy_subscripts
decreases-copy_subscripts l = 3 * size-Subscripts l.at.now

abbrev pub invariant-copy_sum-loop-summand : goal.invariant-copy_sum-loop-summand
invariant-copy_sum-loop-summand l = record {
  same : linked l.whole l.behind.items ≡ applied l.fn.sign l.left l.right;
  parts : IsTrue (list_all (is_at_most (max (size-Index l.left) (size-Index l.right))) l.behind.items);
}

abbrev pub decreases-copy_sum-loop-summand : goal.decreases-copy_sum-loop-summand
decreases-copy_sum-loop-summand l = length l.behind.items
