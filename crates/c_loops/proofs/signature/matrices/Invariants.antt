use Rattle.std.proofs.Common.{◌≡◌, length}
use Rattle.c_grammar.specs.ReadProgram as spec
use Rattle.c_grammar.specs.Reader.{many}
use Rattle.c_loops.proofs.signature.matrices.Given as goal

-- what is left to read gives what the whole gives
abbrev pub invariant-matrices : goal.invariant-matrices
invariant-matrices l = spec.matrices l.fn.tokens ≡ many spec.next_matrix l.found l.tokens

abbrev pub decreases-matrices : goal.decreases-matrices
decreases-matrices l = length l.tokens
