use Rattle.std.proofs.Common.{◌≡◌, ◌≤◌, ◌++◌, map, reverse}
use Rattle.c_tree.specs.declared.data.Expr.{size-Expr}
use Rattle.source_limits.specs.Cells.{cells_of}
use Rattle.source_limits.proofs.parts.+push_cells.Given as goal

abbrev pub invariant-loop-rest : goal.invariant-loop-rest
invariant-loop-rest l = record {
  size : size-Expr l.rest ≤ size-Expr l.value;
  gathers : map (λ c. c.now) l.all.items ++ reverse (cells_of l.rest) ≡ map (λ c. c.now) l.initial.all.items ++ reverse (cells_of l.value);
}
