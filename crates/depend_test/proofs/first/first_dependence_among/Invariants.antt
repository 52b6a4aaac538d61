use Rattle.std.proofs.Common.{drop}
use Rattle.depend_test.specs.Candidates.{IsDecidedBetween, dependence, at_each, candidates, of_statement}
use Rattle.depend_test.proofs.Firsts.{Passed}
use Rattle.depend_test.proofs.first.first_dependence_among.Given as goal

abbrev pub invariant-loop-from : goal.invariant-loop-from
invariant-loop-from l = Passed (IsDecidedBetween l.kernel) dependence (candidates l.all) (at_each (of_statement l.all) l.from (drop l.from l.all))
