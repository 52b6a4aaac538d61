-- What is made of a recipe and a source.
use Rattle.std.specs.Prelude.{◌≡◌, ◌⊎◌, ◌+◌, ℕ, List, [], ◌∷◌, ◌++◌, length, Option, Some, None, Result, Ok, Err}
use Rattle.c_tree.specs.declared.program.Program.{Program}
use Rattle.c_tokens.specs.Pieces.{tokens_of}
use Rattle.c_grammar.specs.Program.{IsProgram}
use Rattle.c_judge.specs.Rules.{KeepsRules}
use Rattle.c_judge.specs.declared.faults.ProgramFault.{ProgramFault}
use Rattle.c_loops.specs.Programs.{program_of}
use Rattle.first_form.specs.Written as first_form
use Rattle.c_meaning.specs.Inputs.{Input, IsValid}
use Rattle.c_meaning.specs.Programs.{IsFine, list_of}
use Rattle.headline.specs.Headline.{PerformsAsSource}
use Rattle.first_laws.specs.Alike.{HasSameSignature, RunsAlike}
use Rattle.c_print.specs.Program.{program_text}
use Rattle.source_limits.specs.Heads.{signature_of}
use Rattle.nest_tree.specs.declared.kernel.Kernel.{Kernel}
use Rattle.nest_core.specs.Shapes.{IsShaped}
use Rattle.kernel_commands.specs.Done.{AllDone}
use Rattle.kernel_commands.specs.Refused.{Answers}
use Rattle.nest_tree.specs.declared.fault.CommandFault.{CommandFault}
use Rattle.chill_base.specs.declared.faults.Stop.TheVariants.{Refused}
use Rattle.loop_scan.specs.Heads.{KeepsHead}
use Rattle.recipe_read.specs.declared.command.Command.{Command}
use Rattle.recipe_read.specs.declared.recipe.RecipeFault.{RecipeFault}
use Rattle.recipe_read.specs.Recipe as recipes
use Rattle.outcomes.specs.declared.outcome.Refusal.{Refusal}
use Rattle.outcomes.specs.declared.outcome.Refusal.TheVariants.{Recipe, Program as ProgramRefused, Source, Command as CommandRefused, Scan}

-- the program that is written for a program, if it is of the first form
unfoldable pub written_for : Program → Option Program
written_for p = first_form.written p

-- without commands a program of the first form is written as it stands
abbrev pub as_it_stands : List Command → Program → Option Program
as_it_stands [] p = written_for p
as_it_stands (c ∷ cs) p = None

-- why a recipe is refused: its first bad line, or too many commands
abbrev pub RecipeCause : Result (List Command) RecipeFault → Refusal → Type 0
RecipeCause (Ok commands) refusal = ⊥
RecipeCause (Err fault) refusal = refusal ≡ Recipe fault

-- what acceptance says of a program's kernel: it is well-formed, its head is the program's signature, and no arrays are made
pub record IsAccepted (program : Program) (kernel : Kernel) : Type 0 where
  pub shaped : IsShaped kernel
  pub head : kernel.head ≡ signature_of program
  pub made : kernel.made ≡ []

-- the kernel that the commands, one behind the other, make of an accepted kernel of a program
pub record IsReached (commands : List Command) (program : Program) (last : Kernel) : Type 0 where
  pub accepted : Kernel
  pub is_accepted : IsAccepted program accepted
  pub done : AllDone accepted commands last
  pub shaped : IsShaped last

-- a program that is written from the kernel that the commands make: it keeps that kernel's signature and inspector
pub record IsThrough (commands : List Command) (program written : Program) : Type 0 where
  pub last : Kernel
  pub reached : IsReached commands program last
  pub head : KeepsHead last.head written

-- the command of this number is the next one, where those before it have made the new kernel of the old one, and it is refused
-- there for this fault
pub record IsNext (old : Kernel) (commands : List Command) (number : ℕ) (fault : CommandFault) (new : Kernel) : Type 0 where
  pub front : List Command
  pub command : Command
  pub rest : List Command
  pub parts : commands ≡ front ++ command ∷ rest
  pub count : number ≡ length front + 1
  pub done : AllDone old front new
  pub answers : Answers new command (Err (Refused fault))

-- a command is refused, by its number, at the kernel that those before it have made
abbrev pub IsRefusedAt : Kernel → List Command → Kernel → Refusal → Type 0
IsRefusedAt old commands new (CommandRefused number fault) = IsNext old commands number fault new
IsRefusedAt old commands new refusal = ⊥

-- the same of the commands of a recipe, from an accepted kernel of a program on
pub record IsStopped (commands : List Command) (program : Program) (number : ℕ) (fault : CommandFault) : Type 0 where
  pub accepted : Kernel
  pub is_accepted : IsAccepted program accepted
  pub before : Kernel
  pub shaped : IsShaped before
  pub next : IsNext accepted commands number fault before

-- a refusal of a program that is read: it isn't accepted, a command is refused behind those before it, or the statements that
-- all commands make can't be written
abbrev pub IsLater : List Command → Program → Refusal → Type 0
IsLater commands program (Source fault) = Unit {0}
IsLater commands program (CommandRefused number fault) = IsStopped commands program number fault
IsLater commands program (Scan fault) = (last : Kernel) × IsReached commands program last
IsLater commands program refusal = ⊥

-- the written program is the one that stands, if one does, and else it is written from the kernel that the commands make
abbrev pub IsFor : List Command → Program → Option Program → Program → Type 0
IsFor commands program None written = IsThrough commands program written
IsFor commands program (Some standing) written = standing ≡ written

-- why a source is refused: it is no program, for a cause that the grammar and the rules show; or it is one that isn't written
-- as it stands, and a later layer refuses it
abbrev pub SourceCause : List Command → Result Program ProgramFault → Refusal → Type 0
SourceCause commands (Ok program) refusal = (as_it_stands commands program ≡ None) × IsLater commands program refusal
SourceCause commands (Err fault) refusal = refusal ≡ ProgramRefused fault

-- The text of the program that is written for the source's program where it is written as it stands. The source's program is
-- the one that the grammar relates to its text, and it keeps all rules. The written program has its signature, and on each
-- input its list of placed assignments and the same arrays at the end; on each valid input it has no fault, so each access is
-- inside its array.
pub record IsTextFor (source text : List ℕ) : Type 0 where
  pub origin : Program
  pub is_program : program_of source ≡ Ok origin
  pub grammar : IsProgram (tokens_of source) origin
  pub rules : KeepsRules origin
  pub written : Program
  pub is_written : written_for origin ≡ Some written
  pub signature : HasSameSignature origin written
  pub alike : (i : Input) → RunsAlike origin written i
  pub fine : (i : Input) → IsValid origin i → IsFine written i
  pub is_text : text ≡ program_text written
  -- the text reads back to one program, which performs the source's assignments on every valid input
  pub performs : PerformsAsSource list_of source text

-- The text of a program that is written for the source's program. It is the one above where the source's program is written
-- as it stands; else the program is written from the kernel that the commands, one behind the other, make of an accepted one.
pub record IsWritten (commands : List Command) (source text : List ℕ) : Type 0 where
  pub origin : Program
  pub is_program : program_of source ≡ Ok origin
  pub grammar : IsProgram (tokens_of source) origin
  pub rules : KeepsRules origin
  pub written : Program
  pub is_text : text ≡ program_text written
  pub made : IsFor commands origin (as_it_stands commands origin) written
  pub standing : (q : Program) → as_it_stands commands origin ≡ Some q → IsTextFor source text

-- with the commands of a recipe
pub record Emits (recipe source text : List ℕ) : Type 0 where
  pub commands : List Command
  pub is_recipe : recipes.recipe recipe ≡ Ok commands
  pub is_written : IsWritten commands source text

pub record Denies (recipe source : List ℕ) (refusal : Refusal) : Type 0 where
  pub commands : List Command
  pub is_recipe : recipes.recipe recipe ≡ Ok commands
  pub cause : SourceCause commands (program_of source) refusal

-- why a recipe and a source are refused: the recipe comes first
abbrev pub EmitCause : (recipe source : List ℕ) → Refusal → Type 0
EmitCause recipe source refusal = RecipeCause (recipes.recipe recipe) refusal ⊎ Denies recipe source refusal

-- the recipe has these commands
abbrev pub HasCommands : List ℕ → List Command → Type 0
HasCommands recipe commands = recipes.recipe recipe ≡ Ok commands

abbrev pub IsRecipe : List ℕ → Type 0
IsRecipe recipe = (commands : List Command) × HasCommands recipe commands
