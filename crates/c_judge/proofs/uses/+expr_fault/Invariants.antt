use Rattle.std.proofs.Common.{◌≡◌, ◌≤◌}
use Rattle.std.specs.Option.{option_or}
use Rattle.c_tree.specs.declared.data.Expr.{size-Expr}
use Rattle.c_judge.specs.Uses.{expr_fault}
use Rattle.c_judge.proofs.uses.+expr_fault.Given as goal

abbrev pub invariant-loop-rest : goal.invariant-loop-rest
invariant-loop-rest l = record {
  size : size-Expr l.rest ≤ size-Expr l.e;
  gathers : option_or (expr_fault l.rule l.scope l.rest) l.found ≡ expr_fault l.rule l.scope l.e;
}
