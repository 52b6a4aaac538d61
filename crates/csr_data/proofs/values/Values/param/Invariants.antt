use Rattle.std.proofs.Common.{◌≡◌, drop}
use Rattle.csr_data.specs.Values.{param_of, params_of}
use Rattle.csr_data.proofs.values.Values.param.Given as goal

abbrev pub invariant-loop-param : goal.invariant-loop-param
invariant-loop-param l = param_of (drop l.param-index (params_of l.self)) l.name ≡ param_of (params_of l.self) l.name
