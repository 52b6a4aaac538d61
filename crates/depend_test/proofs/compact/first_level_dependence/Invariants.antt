use Rattle.std.proofs.Common.{drop}
use Rattle.depend_test.specs.Candidates.{at_each}
use Rattle.depend_test.specs.Levels.{IsDecidedAt, level_dependence, with_access, access_pairs}
use Rattle.depend_test.proofs.Firsts.{Passed}
use Rattle.depend_test.proofs.compact.first_level_dependence.Given as goal

abbrev pub invariant-loop-i : goal.invariant-loop-i
invariant-loop-i l = Passed (IsDecidedAt l.kernel l.side l.level) (level_dependence l.statement l.level) (access_pairs l.side l.how) (at_each (with_access l.side l.how) l.i (drop l.i l.side.accesses))
