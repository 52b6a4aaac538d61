-- What a run of the program of a text is on a data text.
use Rattle.std.specs.Prelude.{◌≡◌, ℕ, List, Ok, Err}
use Rattle.c_tree.specs.declared.program.Program.{Program}
use Rattle.c_loops.specs.Programs.{program_of}
use Rattle.c_run.specs.declared.fault.RunFault.{RunFault}
use Rattle.csr_data.specs.Lines.{Given}
use Rattle.csr_data.specs.Matrices.{says}
use Rattle.outcomes.specs.declared.outcome.Refusal.{Refusal}
use Rattle.outcomes.specs.declared.outcome.Refusal.TheVariants as refusal
use Rattle.program_run.specs.Runs.{LeavesText, HasFault}

-- the text is that of a program
abbrev pub IsProgramText : List ℕ → Type 0
IsProgramText source = (p : Program) × (program_of source ≡ Ok p)

-- the data text gives values on which the program runs without a fault, and this is the text of what it leaves
pub record Leaves (p : Program) (input text : List ℕ) : Type 0 where
  pub given : Given
  pub says : says p input ≡ Ok given
  pub leaves : LeavesText p given.params given.arrays text

-- the data text gives values on which the program has this fault
pub record Fails (p : Program) (input : List ℕ) (f : RunFault) : Type 0 where
  pub given : Given
  pub says : says p input ≡ Ok given
  pub fault : HasFault p given.params given.arrays f

-- why a run is refused: the data text is, or the run has a fault
abbrev pub RunCause : Program → List ℕ → Refusal → Type 0
RunCause p input (refusal.Values f) = says p input ≡ Err f
RunCause p input (refusal.Run f) = Fails p input f
RunCause p input r = ⊥

-- the text that the program of a source leaves on a data text
pub record RunMakes (source input text : List ℕ) : Type 0 where
  pub origin : Program
  pub is_program : program_of source ≡ Ok origin
  pub makes : Leaves origin input text

pub record RunDenies (source input : List ℕ) (r : Refusal) : Type 0 where
  pub origin : Program
  pub is_program : program_of source ≡ Ok origin
  pub cause : RunCause origin input r
