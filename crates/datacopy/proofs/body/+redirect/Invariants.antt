use Rattle.std.proofs.Common.{length}
use Rattle.std.specs.Prelude.{IsTrue}
use Rattle.std.specs.List.{list_all}
use Rattle.nest_tree.specs.declared.body.Body.{size-Body}
use Rattle.nest_core.specs.Chains.{is_smaller}
use Rattle.nest_core.specs.Shapes.{is_body_over}
use Rattle.nest_core.proofs.Along.{is_link_over}
use Rattle.datacopy.proofs.Linking.{is_link_read}
use Rattle.datacopy.proofs.body.+redirect.Given as goal

abbrev pub decreases-redirect : goal.decreases-redirect
decreases-redirect l = size-Body l.body.now

abbrev pub invariant-loop-link : goal.invariant-loop-link
invariant-loop-link l = record {
  made : IsTrue (is_body_over l.vars l.whole);
  smaller : IsTrue (list_all (is_smaller (size-Body l.body)) l.links.items);
  over : IsTrue (list_all (is_link_over l.vars) l.links.items);
  dims : IsTrue (list_all (is_link_read (length l.sides) l.array) l.links.items);
}

abbrev pub decreases-loop-link : goal.decreases-loop-link
decreases-loop-link l = length l.links.items
