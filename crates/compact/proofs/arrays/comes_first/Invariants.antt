use Rattle.std.proofs.Common.{◌≡◌, drop}
use Rattle.compact.specs.Entered.{comes_first}
use Rattle.compact.proofs.arrays.comes_first.Given as goal

abbrev pub invariant-loop-param : goal.invariant-loop-param
invariant-loop-param l = comes_first (drop l.param-index l.params) l.first l.other ≡ comes_first l.params l.first l.other
