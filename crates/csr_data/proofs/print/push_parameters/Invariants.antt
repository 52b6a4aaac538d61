use Rattle.std.proofs.Common.{◌≡◌, ◌++◌, take}
use Rattle.std.specs.List.{flat_map}
use Rattle.csr_data.specs.Printed.{parameter_text}
use Rattle.csr_data.proofs.print.push_parameters.Given as goal

abbrev pub invariant-loop-param : goal.invariant-loop-param
invariant-loop-param l = l.text.items ≡ l.initial.text.items ++ flat_map parameter_text (take l.param-index l.params)
