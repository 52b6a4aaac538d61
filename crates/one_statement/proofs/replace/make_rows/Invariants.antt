use Rattle.one_statement.specs.Images.{same_row}
use Rattle.nest_core.proofs.Makes.{Makes}
use Rattle.one_statement.proofs.replace.make_rows.Given as goal

abbrev pub invariant-loop-row : goal.invariant-loop-row
invariant-loop-row l = Makes (same_row l.images) l.rows l.row-index l.new
