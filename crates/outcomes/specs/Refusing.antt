-- Refusals, and why the text of a program is refused.
use Rattle.std.specs.Prelude.{◌≡◌, Result, Ok, Err}
use Rattle.chill_base.specs.declared.faults.Stop.{Stop}
use Rattle.chill_base.specs.declared.faults.Stop.TheVariants.{Refused, NoMemory}
use Rattle.c_judge.specs.declared.faults.ProgramFault.{ProgramFault}
use Rattle.c_tree.specs.declared.program.Program.{Program}
use Rattle.outcomes.specs.declared.outcome.Refusal.{Refusal}
use Rattle.outcomes.specs.declared.outcome.Refusal.TheVariants as refusal

-- a fact on the refusal, if it isn't want of memory
abbrev pub IfRefused : (Refusal → Type 0) → Stop Refusal → Type 0
IfRefused P (Refused r) = P r
IfRefused P NoMemory = Unit {0}

-- it is no program, for a cause that the grammar and the rules show
abbrev pub ProgramCause : Result Program ProgramFault → Refusal → Type 0
ProgramCause (Ok program) r = ⊥
ProgramCause (Err fault) r = r ≡ refusal.Program fault
