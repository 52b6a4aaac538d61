-- The rules that a program keeps beyond its grammar.
use Rattle.std.specs.Prelude.{◌≡◌, Some, None, Ok, Err}
use Rattle.std.specs.Option.{option_or}
use Rattle.c_tree.specs.declared.program.Program.{Program}
use Rattle.c_judge.specs.declared.names.Part.TheVariants as part
use Rattle.c_judge.specs.Names.{Fault}
use Rattle.c_judge.specs.Limits.{limit_fault}
use Rattle.c_judge.specs.Signature.{signature, signature_fault}
use Rattle.c_judge.specs.Outcomes.{Outcome, and_then}
use Rattle.c_judge.specs.Statements.{judged_all}
use Rattle.c_judge.specs.Fixed.{fixed_fault}

-- the names that are in scope behind both sections
unfoldable pub all_names : Program → Outcome
all_names p = and_then (judged_all part.Inspector p.inspector (signature p)) (judged_all part.Executor p.executor)

abbrev pub fixed_in : Program → Outcome → Fault
fixed_in p (Ok names) = option_or (fixed_fault names part.Inspector p.inspector) (fixed_fault names part.Executor p.executor)
fixed_in p (Err f) = Some f

-- The first fault: first the limits, then the names, then what must stay as it is.
unfoldable pub fault_of : Program → Fault
fault_of p = option_or (limit_fault p) (option_or (signature_fault (signature p) p) (fixed_in p (all_names p)))

-- the program keeps all rules
abbrev pub KeepsRules : Program → Type 0
KeepsRules p = fault_of p ≡ None
