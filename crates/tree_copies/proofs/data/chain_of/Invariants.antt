use Rattle.std.proofs.Common.{◌≤◌, ◌≡◌}
use Rattle.std.specs.Prelude.{IsTrue}
use Rattle.std.specs.List.{list_all}
use Rattle.c_tree.specs.declared.data.Expr.{size-Expr}
use Rattle.tree_copies.specs.Operations.{linked, is_smaller}
use Rattle.tree_copies.proofs.data.chain_of.Given as goal

abbrev pub invariant-loop-rest : goal.invariant-loop-rest
invariant-loop-rest l = record {
  size : size-Expr l.rest ≤ size-Expr l.e;
  whole : linked l.rest l.links.items ≡ l.e;
  smaller : IsTrue (list_all (is_smaller (size-Expr l.e)) l.links.items);
}
