use Rattle.std.proofs.Common.{◌∙◌, arith}
use Rattle.raw_store.proofs.Directory.{near, seen_block, seen_offset, seen_cell}
use Rattle.raw_store.proofs.store.Cells.get.Goals as goal

pub locate-block-requires : goal.locate-block-requires
locate-block-requires c = near _ _ c.self.invariant _ c.self.view_is _ c.requires

pub index-requires : goal.index-requires
index-requires c = let within = seen_block _ _ c.self.invariant _ c.self.view_is _ c.requires _ _ c.locate-block.ensures in omega arith

pub get-requires : goal.get-requires
get-requires c = seen_offset _ _ c.self.invariant _ c.self.view_is _ c.requires _ _ c.locate-block.ensures _ c.index.ensures

pub returns : goal.returns
returns c = c.get.ensures ∙ seen_cell _ _ c.self.invariant _ c.self.view_is _ c.requires _ _ c.locate-block.ensures _ c.index.ensures
