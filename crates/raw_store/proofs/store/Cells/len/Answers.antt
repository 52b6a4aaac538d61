use Rattle.std.proofs.Common.{sym, ◌∙◌, ap, length}
use Rattle.raw_store.proofs.Directory.{length-cells}
use Rattle.raw_store.proofs.store.Cells.len.Goals as goal

pub returns : goal.returns
returns c = sym (length-cells c.self.inside.blocks.items c.self.inside.len c.self.invariant) ∙ ap length c.self.view_is
