-- The measured run of the block recipe.
use Rattle.std.specs.Prelude.{◌≡◌, ◌⊎◌, ℕ, List, [], ◌∷◌, ◌++◌, Ok, codes, decimal}
use Rattle.c_loops.specs.Programs.{program_of}
use Rattle.c_meaning.specs.Memory.{Memory}
use Rattle.c_tree.specs.declared.program.Program.{Program}
use Rattle.csr_data.specs.Lines.{Given}
use Rattle.csr_data.specs.Matrices.{says}
use Rattle.emission.specs.Emitting.{Emits, Denies}
use Rattle.outcomes.specs.declared.outcome.Refusal.{Refusal}
use Rattle.outcomes.specs.declared.outcome.Refusal.TheVariants.{FileLong}
use Rattle.outcomes.specs.Refusing.{ProgramCause}
use Rattle.program_run.specs.Runs.{IsDone, executed}
use Rattle.text_runs.specs.Running.{RunDenies}
use Rattle.measured_run.specs.declared.summary.Figures.{Figures}
use Rattle.measured_run.specs.Figures.{entries_of, figures}

-- a word, a number, and the end of the line
abbrev pub number_line : List ℕ → ℕ → List ℕ
number_line word n = word ++ (decimal n ++ 10 ∷ [])

abbrev pub figures_text : Figures → List ℕ
figures_text f = number_line (codes "size ") f.size ++ number_line (codes "entries ") f.entries ++ number_line (codes "blocks ") f.blocks ++ number_line (codes "layout ") f.layout ++ number_line (codes "sum ") f.sum

-- five lines, of these arrays
abbrev pub summary : (size entries : ℕ) → Memory → List ℕ
summary size entries m = figures_text (figures size entries m)

-- the data text gives values on which the program runs without a fault, and this is the summary of the data and of what the run
-- leaves
pub record Measures (p : Program) (input : List ℕ) (size : ℕ) (text : List ℕ) : Type 0 where
  pub given : Given
  pub says : says p input ≡ Ok given
  pub done : IsDone p given.params given.arrays
  pub is_summary : text ≡ summary size (entries_of given.params) (executed p given.params given.arrays).last

-- the same for the program of a source
pub record RunsTo (source input : List ℕ) (size : ℕ) (text : List ℕ) : Type 0 where
  pub program : Program
  pub is_program : program_of source ≡ Ok program
  pub measures : Measures program input size text

-- the same for what the recipe makes of a source, on some data text
pub record Measured (recipe source : List ℕ) (size : ℕ) (text : List ℕ) : Type 0 where
  pub written : List ℕ
  pub emits : Emits recipe source written
  pub input : List ℕ
  pub runs : RunsTo written input size text

-- the data text is longer than a file may be
abbrev pub IsTooLong : Refusal → Type 0
IsTooLong r = r ≡ FileLong 2

-- a program that was written is refused as its text is, or on its data
pub record WrittenDenied (recipe source : List ℕ) (r : Refusal) : Type 0 where
  pub written : List ℕ
  pub emits : Emits recipe source written
  pub input : List ℕ
  pub cause : ProgramCause (program_of written) r ⊎ (IsTooLong r ⊎ RunDenies written input r)

-- for a recipe that is read: why the source is refused, or what was written for it
abbrev pub WorkCause : (recipe source : List ℕ) → Refusal → Type 0
WorkCause recipe source r = Denies recipe source r ⊎ WrittenDenied recipe source r
