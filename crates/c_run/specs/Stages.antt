-- How far a machine is.
use Rattle.c_run.specs.declared.machine.Stage.{Stage}
use Rattle.c_run.specs.declared.machine.Stage.TheVariants.{Prepared, Inspected, Refused, NoMemory}

-- the executor may be run, or was refused
abbrev pub IsInspected : Stage → Type 0
IsInspected Prepared = ⊥
IsInspected Inspected = Unit {0}
IsInspected (Refused f) = Unit {0}
IsInspected NoMemory = ⊥
