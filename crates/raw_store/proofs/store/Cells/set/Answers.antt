use Rattle.std.proofs.Common.{◌∙◌, ap, sym, subst, set, arith}
use Rattle.raw_store.specs.Directory.{cells, IsDirectory}
use Rattle.raw_store.proofs.Directory.{near, seen_block, seen_offset, seen_directory, seen_written}
use Rattle.raw_store.proofs.store.Cells.set.Goals as goal

pub locate-block-requires : goal.locate-block-requires
locate-block-requires c = near _ _ c.self.invariant _ c.self.view_is _ c.requires

pub index_mut-requires : goal.index_mut-requires
index_mut-requires c = let within = seen_block _ _ c.self.invariant _ c.self.view_is _ c.requires _ _ c.locate-block.ensures in omega arith

pub set-requires : goal.set-requires
set-requires c = seen_offset _ _ c.self.invariant _ c.self.view_is _ c.requires _ _ c.locate-block.ensures _ c.index_mut.ensures.value

pub invariant_of-self : goal.invariant_of-self
invariant_of-self c =
    subst (λ b. IsDirectory (set c.self.inside.blocks.items c.locate-block.result.0 b) c.self.inside.len) (sym c.set.ensures)
    (seen_directory _ _ c.self.invariant _ c.self.view_is _ c.requires _ _ c.locate-block.ensures _ c.index_mut.ensures.value c.args.value)

pub returns : goal.returns
returns c =
    ap (λ b. cells (set c.self.inside.blocks.items c.locate-block.result.0 b) c.self.inside.len) c.set.ensures
    ∙ seen_written _ _ c.self.invariant _ c.self.view_is _ c.requires _ _ c.locate-block.ensures _ c.index_mut.ensures.value c.args.value
