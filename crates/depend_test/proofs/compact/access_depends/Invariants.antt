use Rattle.std.proofs.Common.{drop}
use Rattle.depend_test.specs.Candidates.{at_each}
use Rattle.depend_test.specs.Levels.{IsDecidedAt, first_access, with_access, with_conflict}
use Rattle.depend_test.proofs.Firsts.{Passed}
use Rattle.depend_test.proofs.compact.access_depends.Given as goal

abbrev pub invariant-loop-j : goal.invariant-loop-j
invariant-loop-j l = Passed (IsDecidedAt l.kernel l.side l.level) first_access (with_access l.side l.how l.i l.cell) (at_each (with_conflict l.how l.i l.cell) l.j (drop l.j l.side.accesses))
