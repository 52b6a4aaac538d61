use Rattle.std.proofs.Common.{◌≡◌, length}
use Rattle.c_grammar.specs.ReadProgram as spec
use Rattle.c_grammar.specs.Reader.{many}
use Rattle.c_loops.proofs.signature.parameters.Given as goal

-- what is left to read gives what the whole gives
abbrev pub invariant-parameters : goal.invariant-parameters
invariant-parameters l = spec.parameters l.brackets l.fn.tokens ≡ many (spec.next_parameter l.brackets) l.found l.tokens

abbrev pub decreases-parameters : goal.decreases-parameters
decreases-parameters l = length l.tokens
