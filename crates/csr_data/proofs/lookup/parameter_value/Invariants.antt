use Rattle.std.proofs.Common.{◌≡◌, drop}
use Rattle.std.specs.Prelude.{IsTrue}
use Rattle.csr_data.specs.Parameters.{has, names_of, number_in}
use Rattle.csr_data.proofs.lookup.parameter_value.Given as goal

abbrev pub invariant-loop-param : goal.invariant-loop-param
invariant-loop-param l = record {
  there : IsTrue (has (names_of (drop l.param-index l.params)) l.name);
  same : number_in (drop l.param-index l.params) l.name ≡ number_in l.params l.name;
}
