use Rattle.std.proofs.Common.{◌≤◌, ◌≡◌}
use Rattle.std.specs.Prelude.{IsTrue}
use Rattle.std.specs.List.{list_all}
use Rattle.nest_tree.specs.declared.body.Body.{size-Body}
use Rattle.nest_core.specs.Chains.{linked, is_smaller}
use Rattle.nest_core.proofs.chain.chain_of.Given as goal

abbrev pub invariant-loop-rest : goal.invariant-loop-rest
invariant-loop-rest l = record {
  size : size-Body l.rest ≤ size-Body l.body;
  whole : linked l.rest l.links.items ≡ l.body;
  smaller : IsTrue (list_all (is_smaller (size-Body l.body)) l.links.items);
}
