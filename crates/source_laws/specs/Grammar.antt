-- Executors of programs of the grammar.
use Rattle.std.specs.Prelude.{List}
use Rattle.c_tokens.specs.declared.token.Token.{Token}
use Rattle.c_tree.specs.declared.program.Program.{Program}
use Rattle.c_grammar.specs.Program.{IsProgram}
use Rattle.source_limits.specs.Executor.{HasExecutor}

-- a program of the grammar has an executor of at least one statement, with at most 8 loops around one place
abbrev pub GrammarHasExecutor : Type 0
GrammarHasExecutor = (ts : List Token) (p : Program) → IsProgram ts p → HasExecutor p
