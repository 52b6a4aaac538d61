use Rattle.inspector_laws.proofs.Padding.{pads as law}
use Rattle.inspector_laws.proofs.Worked.{worked_holds, worked_values, worked_row_names, pads_rows, row_values_are, row_columns_are, row_width_is}
use Rattle.inspector_laws.proofs.row_lines_pad_rows.Goals as goal

pub returns : goal.returns
returns c = record {
  law = law;
  holds = worked_holds;
  values = worked_values;
  names_fit = worked_row_names;
  no_fault = pads_rows.ends;
  turns = pads_rows.turned;
  width = row_width_is;
  row_values = row_values_are;
  row_columns = row_columns_are;
}
