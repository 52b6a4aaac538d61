use Rattle.sparse_marks.specs.Examples.{by_blocks, by_columns, by_diagonals}
use Rattle.inspector_laws.proofs.Worked.{worked_holds, worked_names, columns_fit as columns, blocks_fit as blocks, diagonals_fit as diagonals, goes, starts_are, values_are, number_is}
use Rattle.inspector_laws.proofs.worked_compacting.Goals as goal

pub returns : goal.returns
returns c = record {
  holds = worked_holds;
  names_fit = worked_names;
  columns_fit = columns;
  blocks_fit = blocks;
  diagonals_fit = diagonals;
  no_fault = (goes by_columns columns).ends;
  turns = (goes by_columns columns).turned;
  starts = starts_are by_columns columns;
  values = values_are by_columns columns 5;
  number = number_is by_columns columns;
  block_starts = starts_are by_blocks blocks;
  block_values = values_are by_blocks blocks 4;
  diagonal_starts = starts_are by_diagonals diagonals;
  diagonal_values = values_are by_diagonals diagonals 4;
}
