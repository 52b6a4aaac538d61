use Rattle.std.proofs.Common.{◌≡◌, length}
use Rattle.std.specs.Prelude.{IsTrue}
use Rattle.std.specs.List.{list_all}
use Rattle.nest_tree.specs.declared.body.Body.{size-Body}
use Rattle.nest_core.specs.Chains.{linked, is_smaller}
use Rattle.one_statement.proofs.copies.+copy_body.Given as goal

abbrev pub decreases-copy_body : goal.decreases-copy_body
decreases-copy_body l = size-Body l.body.now

abbrev pub invariant-loop-link : goal.invariant-loop-link
invariant-loop-link l = record {
  same : linked l.whole l.links.items ≡ l.body;
  smaller : IsTrue (list_all (is_smaller (size-Body l.body)) l.links.items);
}

abbrev pub decreases-loop-link : goal.decreases-loop-link
decreases-loop-link l = length l.links.items
