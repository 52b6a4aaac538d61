use Rattle.std.proofs.Common.{◌≤◌}
use Rattle.std.specs.Prelude.{IsTrue}
use Rattle.std.specs.List.{list_all}
use Rattle.c_tree.specs.declared.data.Expr.{size-Expr}
use Rattle.source_limits.specs.Parts.{is_smaller_link}
use Rattle.source_limits.proofs.spine.chain_of.Given as goal

abbrev pub invariant-loop-rest : goal.invariant-loop-rest
invariant-loop-rest l = record {
  size : size-Expr l.rest ≤ size-Expr l.value;
  behind : IsTrue (list_all (is_smaller_link (size-Expr l.value)) l.behind.items);
}
