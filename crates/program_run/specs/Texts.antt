-- The values of a data text.
use Rattle.std.specs.Prelude.{◌≡◌, ℕ, List, Result, Ok, Err}
use Rattle.chill_base.specs.declared.faults.Stop.{Stop}
use Rattle.chill_base.specs.declared.faults.Stop.TheVariants.{Refused, NoMemory}
use Rattle.c_tree.specs.declared.program.Program.{Program}
use Rattle.csr_data.specs.declared.fault.ValuesFault.{ValuesFault}
use Rattle.csr_data.specs.declared.values.Values.{Values}
use Rattle.csr_data.specs.Headings.{HasSignature}
use Rattle.csr_data.specs.Matrices.{says}
use Rattle.csr_data.specs.Values.{params_of, arrays_of}
use Rattle.csr_data.specs.Wanted.{given_of}

-- the text gives these values, which are of the signature; or it is refused so
pub record Gives (p : Program) (text : List ℕ) (v : Values) : Type 0 where
  pub says : says p text ≡ Ok (given_of v)
  pub signature : HasSignature p (params_of v) (arrays_of v)

abbrev pub TellsValues : Program → List ℕ → Result Values (Stop ValuesFault) → Type 0
TellsValues p text (Ok v) = Gives p text v
TellsValues p text (Err (Refused f)) = says p text ≡ Err f
TellsValues p text (Err NoMemory) = Unit {0}
