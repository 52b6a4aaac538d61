use Rattle.std.proofs.Common.{◌≡◌, drop}
use Rattle.compact_pad.specs.Entering.{is_cols_first}
use Rattle.compact_pad.proofs.kinds.is_cols_first.Given as goal

abbrev pub invariant-loop-param : goal.invariant-loop-param
invariant-loop-param l = is_cols_first l.matrix (drop l.param-index l.params) ≡ is_cols_first l.matrix l.params
