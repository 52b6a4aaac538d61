use Rattle.std.proofs.Common.{◌≤◌, ◌≡◌}
use Rattle.std.specs.Prelude.{max, IsTrue}
use Rattle.std.specs.List.{list_all}
use Rattle.c_tree.specs.declared.index.Index.{size-Index}
use Rattle.tree_copies.specs.Sums.{applied, linked, is_at_most}
use Rattle.tree_copies.proofs.index.parts_of.Given as goal

abbrev pub invariant-loop-first : goal.invariant-loop-first
invariant-loop-first l = record {
  size : size-Index l.first ≤ size-Index l.left;
  whole : linked l.first l.behind.items ≡ applied l.last.sign l.left l.last.part.now;
  parts : IsTrue (list_all (is_at_most (max (size-Index l.left) (size-Index l.last.part.now))) l.behind.items);
}
