use Rattle.std.proofs.Common.{drop}
use Rattle.depend_test.specs.Candidates.{IsDecided, carried_of, at_each, of_access, of_conflict}
use Rattle.depend_test.proofs.Firsts.{Passed}
use Rattle.depend_test.proofs.first.first_of_access.Given as goal

abbrev pub invariant-loop-j : goal.invariant-loop-j
invariant-loop-j l = Passed (IsDecided l.kernel) carried_of (of_access l.a l.b l.i l.cell) (at_each (of_conflict l.a l.b l.i l.cell) l.j (drop l.j l.b.accesses))
