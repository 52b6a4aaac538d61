use Rattle.std.proofs.Common.{◌≡◌, length}
use Rattle.std.specs.Prelude.{IsTrue}
use Rattle.std.specs.List.{list_all}
use Rattle.c_tree.specs.declared.data.Expr.{size-Expr}
use Rattle.tree_copies.specs.Operations.{linked, is_smaller}
use Rattle.tree_copies.proofs.data.+copy_expr.Given as goal

abbrev pub decreases-copy_expr : goal.decreases-copy_expr
decreases-copy_expr l = size-Expr l.e.now

abbrev pub invariant-loop-link : goal.invariant-loop-link
invariant-loop-link l = record {
  same : linked l.whole l.links.items ≡ l.e;
  smaller : IsTrue (list_all (is_smaller (size-Expr l.e)) l.links.items);
}

abbrev pub decreases-loop-link : goal.decreases-loop-link
decreases-loop-link l = length l.links.items
