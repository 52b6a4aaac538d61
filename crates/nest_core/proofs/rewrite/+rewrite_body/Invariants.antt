use Rattle.std.proofs.Common.{◌≡◌, length}
use Rattle.std.specs.Prelude.{Ok, IsTrue}
use Rattle.std.specs.List.{list_all}
use Rattle.nest_tree.specs.declared.body.Body.{size-Body}
use Rattle.nest_core.specs.Chains.{is_smaller}
use Rattle.nest_core.specs.Forms.{rewritten, old_vars}
use Rattle.nest_core.specs.Pieces.{body_made}
use Rattle.nest_core.proofs.Along.{made_along, is_link_over}
use Rattle.nest_core.proofs.rewrite.+rewrite_body.Given as goal

abbrev pub decreases-rewrite_body : goal.decreases-rewrite_body
decreases-rewrite_body l = size-Body l.body.now

abbrev pub invariant-loop-link : goal.invariant-loop-link
invariant-loop-link l = record {
  made : made_along (rewritten l.frame l.old) l.links.items (Ok l.whole) ≡ body_made (rewritten l.frame l.old) l.body;
  smaller : IsTrue (list_all (is_smaller (size-Body l.body)) l.links.items);
  over : IsTrue (list_all (is_link_over (old_vars l.frame)) l.links.items);
}

abbrev pub decreases-loop-link : goal.decreases-loop-link
decreases-loop-link l = length l.links.items
