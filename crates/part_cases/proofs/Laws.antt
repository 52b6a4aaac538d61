-- The extents of a program of the grammar divide by numbers that aren't 0.
use Rattle.std.specs.Prelude.{List}
use Rattle.c_tokens.specs.declared.token.Token.{Token}
use Rattle.c_tree.specs.declared.program.Program.{Program}
use Rattle.c_grammar.specs.Program.{IsProgram}
use Rattle.csr_data.specs.Divisors.{ExtentsHaveDivisors}
use Rattle.run_laws.proofs.Divisors.{program_divides}

pub divides : (ts : List Token) (p : Program) → IsProgram ts p → ExtentsHaveDivisors p
divides = program_divides
