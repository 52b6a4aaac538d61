use Rattle.std.proofs.Common.{◌≡◌, ◌≤◌, ◌++◌}
use Rattle.c_tree.specs.declared.index.Index.{size-Index}
use Rattle.c_print.specs.Index.{printed}
use Rattle.c_print.proofs.index.+index.Given as goal

-- what is left, before what was put, gives the whole
abbrev pub invariant-print_index-loop-rest : goal.invariant-print_index-loop-rest
invariant-print_index-loop-rest l = record {
  size : size-Index l.rest ≤ size-Index l.e;
  text : (printed l.rest).text ++ l.out ≡ (printed l.e).text ++ l.initial.out;
}
