use Rattle.c_loops.proofs.Texts.{tree_sound, tree_only, tree_refused, tree_wrong}
use Rattle.c_loops.proofs.read.read_tree.Goals as goal

pub returns : goal.returns
returns c = record {
  exact = c.tree.ensures;
  sound = tree_sound _ _ c.tree.ensures;
  only = tree_only _ _ c.tree.ensures;
  refused = tree_refused _ _ c.tree.ensures;
  token = tree_wrong _ _ c.tree.ensures;
}
