-- What a whole text says.
use Rattle.std.proofs.Common.{◌≡◌, ℕ, List, [], ◌++◌, Result, Ok, Err, sym, ap, ◌∙◌, append-nil}
use Rattle.chill_base.specs.declared.faults.Stop.{Stop}
use Rattle.chill_base.specs.declared.faults.Stop.TheVariants.{Refused, NoMemory}
use Rattle.c_tree.specs.declared.program.Program.{Program}
use Rattle.csr_data.specs.declared.fault.ValuesFault.{ValuesFault}
use Rattle.csr_data.specs.declared.values.Values.{Values}
use Rattle.csr_data.specs.Lines.{Said, dues, says_from}
use Rattle.csr_data.specs.Matrices.{says}
use Rattle.csr_data.specs.Parameters.{AreSmall}
use Rattle.csr_data.specs.Reading.{checked, ReadsStop, TellsStop}
use Rattle.csr_data.specs.Values.{params_of}
use Rattle.csr_data.specs.Wanted.{given_of}
use Rattle.csr_data.proofs.Told.{says_names, says_arrays}
use Rattle.std.specs.Prelude.{IfOk}
use Rattle.program_run.specs.Texts.{TellsValues}

-- by what is told before any byte, and behind all of them
module _ (p : Program) (text : List ℕ) (before after : List ℕ → Said) (fresh : (more : List ℕ) → before more ≡ says_from 1 (dues p) (record { params = []; arrays = [] }) more) where
  whole : says p text ≡ checked p (before (text ++ []))
  whole = ap (checked p) (sym (fresh text) ∙ ap before (sym (append-nil text)))

  pub all_read : (r : Result Values (Stop ValuesFault)) → ((more : List ℕ) → before (text ++ more) ≡ after more) → TellsStop r (checked p (after [])) → IfOk r (λ v. AreSmall (params_of v)) → TellsValues p text r
  all_read (Ok v) reads tells small =
      let said = whole ∙ ap (checked p) (reads []) ∙ tells in
      record { says = said; signature = record { names = says_names p text (given_of v) said; small = small; arrays = says_arrays p text (given_of v) said } }
  all_read (Err (Refused f)) reads tells small = whole ∙ ap (checked p) (reads []) ∙ tells
  all_read (Err NoMemory) reads tells small = tt

  pub refused_early : (s : Stop ValuesFault) → ReadsStop (Err s) (λ more. before (text ++ more)) after → TellsValues p text (Err s)
  refused_early (Refused f) reads = whole ∙ ap (checked p) (reads [])
  refused_early NoMemory reads = tt
