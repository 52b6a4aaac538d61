use Rattle.std.proofs.Common.{◌≡◌, ◌≤◌, ◌++◌}
use Rattle.c_tree.specs.declared.data.Expr.{size-Expr}
use Rattle.c_print.specs.Index.{cell_text}
use Rattle.c_print.specs.Data.{data_printed}
use Rattle.c_print.proofs.data.+data.Given as goal

-- what is left, before what was put, gives the whole
abbrev pub invariant-print_data-loop-rest : goal.invariant-print_data-loop-rest
invariant-print_data-loop-rest l = record {
  size : size-Expr l.rest ≤ size-Expr l.e;
  text : (data_printed cell_text l.rest).text ++ l.out ≡ (data_printed cell_text l.e).text ++ l.initial.out;
}
