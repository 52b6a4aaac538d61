-- Programs of the grammar that keep the rules can be run.
use Rattle.std.specs.Prelude.{List}
use Rattle.c_tokens.specs.declared.token.Token.{Token}
use Rattle.c_tree.specs.declared.program.Program.{Program}
use Rattle.c_grammar.specs.Program.{IsProgram}
use Rattle.c_judge.specs.Rules.{KeepsRules}
use Rattle.csr_data.specs.declared.values.Parameter.{Parameter}
use Rattle.csr_data.specs.declared.values.Table.{Table}
use Rattle.csr_data.specs.Divisors.{ExtentsHaveDivisors}
use Rattle.csr_data.specs.Headings.{HasSignature}
use Rattle.c_run.specs.Store.{prepared}
use Rattle.c_run.specs.Ready.{CanInspect}

-- the extents of a program of the grammar divide by at least 1
abbrev pub ProgramsHaveDivisors : Type 0
ProgramsHaveDivisors = (ts : List Token) (p : Program) → IsProgram ts p → ExtentsHaveDivisors p

-- a program of the grammar that keeps the rules can be run on values of its signature
abbrev pub ProgramsCanRun : Type 0
ProgramsCanRun = (ts : List Token) (p : Program) (ps : List Parameter) (tables : List Table) → IsProgram ts p → KeepsRules p → HasSignature p ps tables → CanInspect p (prepared ps tables)
