use Rattle.std.proofs.Common.{◌≡◌, length}
use Rattle.c_judge.specs.Statements.{tests_fault}
use Rattle.c_judge.proofs.names.tests_fault.Given as goal

abbrev pub invariant-tests : goal.invariant-tests
invariant-tests l = tests_fault l.scope l.tests ≡ tests_fault l.scope l.initial.tests

abbrev pub decreases-tests : goal.decreases-tests
decreases-tests l = length l.tests
