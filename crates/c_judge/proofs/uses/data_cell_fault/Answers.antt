use Rattle.c_judge.proofs.UsesAt.{data_cell_is}
use Rattle.c_judge.proofs.uses.data_cell_fault.Goals as goal

pub returns : goal.returns
returns c =
    data_cell_is c.args.rule c.args.scope.now c.args.cell.now c.cell_fault-own.result c.subscripts_fault.result c.or.result c.subscript_count.result
    c.cell_fault-own.ensures (c.subscript_count.ensures c.args.rule c.args.scope.now) c.subscripts_fault.ensures c.or.ensures
