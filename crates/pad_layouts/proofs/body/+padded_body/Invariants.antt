use Rattle.std.proofs.Common.{◌≡◌, length}
use Rattle.std.specs.Prelude.{IsTrue}
use Rattle.std.specs.List.{list_all}
use Rattle.nest_tree.specs.declared.body.Body.{size-Body}
use Rattle.nest_core.specs.Chains.{is_smaller}
use Rattle.pad_layouts.specs.Moved.{padded_body}
use Rattle.pad_layouts.proofs.Linking.{padded_along, suits_link}
use Rattle.pad_layouts.proofs.body.+padded_body.Given as goal

abbrev pub decreases-padded_body : goal.decreases-padded_body
decreases-padded_body l = size-Body l.body.now

abbrev pub invariant-loop-link : goal.invariant-loop-link
invariant-loop-link l = record {
  padded : padded_along l.picks l.value l.cell l.links.items l.whole ≡ padded_body l.picks l.value l.cell l.body;
  smaller : IsTrue (list_all (is_smaller (size-Body l.body)) l.links.items);
  suits : IsTrue (list_all (suits_link l.picks) l.links.items);
}

abbrev pub decreases-loop-link : goal.decreases-loop-link
decreases-loop-link l = length l.links.items
