use Rattle.c_meaning.proofs.Readings.{some_extents}
use Rattle.c_walk.proofs.data.read_data.Goals as goal

pub data_cell-requires : goal.data_cell-requires
data_cell-requires g c = some_extents c.args.cell.now.at (g.M.View.scope c.args.memory.now) _ c.requires
