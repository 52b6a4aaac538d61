-- The input that a data text gives, and what a program does on it.
use Rattle.std.specs.Prelude.{◌≡◌, ◌<◌, ◌^◌, ℕ, pos, List, Ok}
use Rattle.std.specs.List.{AllByRecursion}
use Rattle.c_tokens.specs.declared.token.Token.{Token}
use Rattle.c_tree.specs.declared.program.Program.{Program}
use Rattle.c_grammar.specs.Program.{IsProgram}
use Rattle.c_judge.specs.Rules.{KeepsRules}
use Rattle.c_meaning.specs.Memory.{Spot}
use Rattle.c_meaning.specs.Inputs.{Input, IsParameter, HasExtents, IsValid, start}
use Rattle.c_meaning.specs.Programs.{inspection, execution}
use Rattle.c_walk.specs.State.{memory_in}
use Rattle.csr_data.specs.Lines.{Given}
use Rattle.csr_data.specs.Matrices.{says}
use Rattle.csr_data.specs.Parameters.{number_in}
use Rattle.c_run.specs.Store.{prepared}
use Rattle.program_run.specs.Runs.{inspected, executed}

-- the values of the parameters, and the cells of the arrays
abbrev pub input_of : Given → Input
input_of g = record { value = λ x. pos (number_in g.params x); index = (prepared g.params g.arrays).sight.index; cells = (prepared g.params g.arrays).cells }

-- a text gives values for a program that keeps the rules
pub record Reads (p : Program) (text : List ℕ) (g : Given) : Type 0 where
  pub tokens : List Token
  pub grammar : IsProgram tokens p
  pub rules : KeepsRules p
  pub says : says p text ≡ Ok g

-- what a text gives is a valid input
abbrev pub InputIsValid : Type 0
InputIsValid = (p : Program) (text : List ℕ) (g : Given) → Reads p text g → IsValid p (input_of g)

-- each parameter is in its range
abbrev pub ParametersAreValid : Type 0
ParametersAreValid = (p : Program) (text : List ℕ) (g : Given) → Reads p text g → AllByRecursion (λ x. IsParameter x (input_of g)) p.params

-- each extent has a value, which isn't negative
abbrev pub ExtentsAreValid : Type 0
ExtentsAreValid = (p : Program) (text : List ℕ) (g : Given) → Reads p text g → AllByRecursion (λ a. HasExtents a (input_of g)) p.arrays

-- each cell of a data array is below 2^64
abbrev pub NumbersAreValid : Type 0
NumbersAreValid = (p : Program) (text : List ℕ) (g : Given) → Reads p text g → (x : Spot) → (input_of g).cells x < 2 ^ 64

-- the arrays that the machine is prepared with are those that a run of the definitions starts with
abbrev pub SameStart : Type 0
SameStart = (p : Program) (text : List ℕ) (g : Given) → Reads p text g → memory_in (prepared g.params g.arrays) ≡ start p (input_of g)

-- and so both sections run as the definitions say
pub record RunsAsDefined (p : Program) (g : Given) : Type 0 where
  pub inspector : inspected p g.params g.arrays ≡ inspection p (input_of g)
  pub executor : executed p g.params g.arrays ≡ execution p (input_of g)

abbrev pub SameRuns : Type 0
SameRuns = (p : Program) (text : List ℕ) (g : Given) → Reads p text g → RunsAsDefined p g
