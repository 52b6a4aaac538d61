use Rattle.std.proofs.Common.{Bor}
use Rattle.c_tree.specs.declared.index.Cell.{Cell}
use Rattle.source_limits.specs.Cells.{cells_of}
use Rattle.source_limits.proofs.Lists.{turned-seen}
use Rattle.source_limits.proofs.parts.cells.Goals as goal

pub returns : goal.returns
returns c =
    turned-seen (λ (r : Bor Cell). r.now) c.new-all.result.items c.push_cells.new.all.items c.push.new.self.items c.reverse.new.self.items c.args.target (cells_of c.args.value.now)
    c.new-all.ensures.items c.in_ok-push_cells.ensures c.in_ok-push.ensures.items c.reverse.ensures.items
