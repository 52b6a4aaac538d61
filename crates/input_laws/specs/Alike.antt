-- A program of the first form and the program that is written for it, on one data text.
use Rattle.std.specs.Prelude.{◌≡◌, ℕ, List, [], Ok, Some}
use Rattle.std.specs.List.{AllByRecursion}
use Rattle.c_tree.specs.declared.program.Program.{Program}
use Rattle.c_meaning.specs.Programs.{HasSameCells}
use Rattle.csr_data.specs.Lines.{Given}
use Rattle.csr_data.specs.Matrices.{says}
use Rattle.first_form.specs.Written.{written}
use Rattle.program_run.specs.Runs.{executed, IsDone}
use Rattle.input_laws.specs.Inputs.{Reads}

-- the text gives both programs the same values; the machine runs both without a fault, and leaves each array the same behind both
pub record RunAlikeOn (p q : Program) (text : List ℕ) (g : Given) : Type 0 where
  pub says : says q text ≡ Ok g
  pub source : IsDone p g.params g.arrays
  pub written : IsDone q g.params g.arrays
  pub arrays : AllByRecursion (λ a. HasSameCells a (executed p g.params g.arrays).last (executed q g.params g.arrays).last) p.arrays

abbrev pub FirstFormRunsAlike : Type 0
FirstFormRunsAlike = (p q : Program) (text : List ℕ) (g : Given) → written p ≡ Some q → Reads p text g → RunAlikeOn p q text g
