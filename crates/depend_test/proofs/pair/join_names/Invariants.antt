use Rattle.std.proofs.Common.{◌≡◌, ◌++◌, drop}
use Rattle.std.specs.Prelude.{filter}
use Rattle.depend_test.specs.Pairs.{joined_names, is_new}
use Rattle.depend_test.proofs.pair.join_names.Given as goal

abbrev pub invariant-loop-name : goal.invariant-loop-name
invariant-loop-name l = l.all ++ filter (is_new l.first) (drop l.name-index l.second) ≡ joined_names l.first l.second
