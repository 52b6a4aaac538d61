use Rattle.std.proofs.Common.{drop}
use Rattle.depend_test.specs.Candidates.{IsDecidedBetween, dependence, at_each, of_statement, of_other}
use Rattle.depend_test.proofs.Firsts.{Passed}
use Rattle.depend_test.proofs.first.first_of_statement.Given as goal

abbrev pub invariant-loop-to : goal.invariant-loop-to
invariant-loop-to l = Passed (IsDecidedBetween l.kernel) dependence (of_statement l.all l.from l.a) (at_each (of_other l.from l.a) l.to (drop l.to l.all))
