use Rattle.std.proofs.Common.{◌≤◌}
use Rattle.c_tree.specs.declared.index.Index.{size-Index}
use Rattle.source_limits.proofs.reads.+is_plain.Given as goal

abbrev pub invariant-loop-rest : goal.invariant-loop-rest
invariant-loop-rest l = size-Index l.rest ≤ size-Index l.e
