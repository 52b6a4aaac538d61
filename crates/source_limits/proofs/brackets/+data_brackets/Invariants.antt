use Rattle.std.proofs.Common.{◌≤◌}
use Rattle.c_tree.specs.declared.data.Expr.{size-Expr}
use Rattle.source_limits.proofs.brackets.+data_brackets.Given as goal

abbrev pub invariant-loop-rest : goal.invariant-loop-rest
invariant-loop-rest l = size-Expr l.rest ≤ size-Expr l.e
