use Rattle.std.proofs.Common.{◌≡◌, length}
use Rattle.c_grammar.specs.ReadStatement as spec
use Rattle.c_grammar.specs.Reader.{many}
use Rattle.c_loops.proofs.guard.tests.Given as goal

-- what is left to read gives what the whole gives
abbrev pub invariant-tests : goal.invariant-tests
invariant-tests l = spec.tests l.brackets l.fn.tokens ≡ many (spec.next_test l.brackets) l.found l.tokens

abbrev pub decreases-tests : goal.decreases-tests
decreases-tests l = length l.tokens
