use Rattle.std.proofs.Common.{◌+◌, length}
use Rattle.std.specs.Prelude.{IsTrue}
use Rattle.std.specs.List.{list_all}
use Rattle.nest_tree.specs.declared.body.Body.{size-Body}
use Rattle.nest_core.specs.Chains.{is_smaller}
use Rattle.nest_core.proofs.Along.{is_link_over}
use Rattle.loop_scan.proofs.assignment.+write_body.Given as goal

abbrev pub decreases-write_body : goal.decreases-write_body
decreases-write_body l = size-Body l.body.now

abbrev pub invariant-loop-link : goal.invariant-loop-link
invariant-loop-link l = record {
  smaller : IsTrue (list_all (is_smaller (size-Body l.body)) l.links.items);
  over : IsTrue (list_all (is_link_over (l.c.origin.params + l.c.origin.levels + length l.c.origin.terms.now)) l.links.items);
}

abbrev pub decreases-loop-link : goal.decreases-loop-link
decreases-loop-link l = length l.links.items
