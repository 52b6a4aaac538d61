use Rattle.std.proofs.Common.{◌≡◌, ◌≤◌}
use Rattle.std.specs.Option.{option_or}
use Rattle.c_tree.specs.declared.index.Index.{size-Index}
use Rattle.c_judge.specs.Uses.{index_fault}
use Rattle.c_judge.proofs.uses.+uses.Given as goal

abbrev pub invariant-index_fault-loop-rest : goal.invariant-index_fault-loop-rest
invariant-index_fault-loop-rest l = record {
  size : size-Index l.rest ≤ size-Index l.e;
  gathers : option_or (index_fault l.rule l.scope l.rest) l.found ≡ index_fault l.rule l.scope l.e;
}
