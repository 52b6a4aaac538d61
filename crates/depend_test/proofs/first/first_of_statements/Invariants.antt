use Rattle.std.proofs.Common.{drop}
use Rattle.depend_test.specs.Candidates.{IsDecidedBetween, dependence, at_each, of_statements, of_cell}
use Rattle.depend_test.proofs.Firsts.{Passed}
use Rattle.depend_test.proofs.first.first_of_statements.Given as goal

abbrev pub invariant-loop-i : goal.invariant-loop-i
invariant-loop-i l = Passed (IsDecidedBetween l.kernel) dependence (of_statements l.from l.a l.to l.b) (at_each (of_cell l.from l.a l.to l.b) l.i (drop l.i l.a.accesses))
