use Rattle.std.proofs.Common.{◌≡◌, ◌+◌, ◌*◌, length}
use Rattle.c_grammar.specs.ReadStatement as spec
use Rattle.c_grammar.specs.Reader.{many}
use Rattle.c_loops.proofs.statement.+statement.Given as goal

-- Brackets count first; a rule stands above those that it calls in the same bracket.
abbrev pub decreases-statement : goal.decreases-statement
decreases-statement l = 4 * l.brackets

abbrev pub decreases-statements : goal.decreases-statements
decreases-statements l = 4 * l.brackets + 1

abbrev pub decreases-body : goal.decreases-body
decreases-body l = 4 * l.inside + 2

abbrev pub decreases-repetition : goal.decreases-repetition
decreases-repetition l = 4 * l.inside + 3

abbrev pub decreases-guarded : goal.decreases-guarded
decreases-guarded l = 4 * l.inside + 3

-- what is left to read gives what the whole gives
abbrev pub invariant-statements-statements : goal.invariant-statements-statements
invariant-statements-statements l = spec.statements l.section l.brackets l.loops l.guards l.fn.tokens
    ≡ many (spec.next_statement l.section l.brackets (spec.statement l.section l.brackets) l.loops l.guards) l.found l.tokens

abbrev pub decreases-statements-statements : goal.decreases-statements-statements
decreases-statements-statements l = length l.tokens
