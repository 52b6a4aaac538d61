-- The faults of runs.
use Rattle.c_meaning.specs.declared.fault.EvalFault.{EvalFault}
use Rattle.c_meaning.specs.declared.fault.EvalFault.TheVariants as eval
use Rattle.c_meaning.specs.Names.{Place}
use Rattle.c_run.specs.declared.fault.Section.{Section}
use Rattle.c_run.specs.declared.fault.RunFault.{RunFault}
use Rattle.c_run.specs.declared.fault.RunFault.TheVariants.{Outside, Range}

-- the fault of an expression of the section, at its place
abbrev pub fault_at : Section → Place → EvalFault → RunFault
fault_at section place (eval.Outside array) = Outside section array place
fault_at section place eval.Range = Range section place
