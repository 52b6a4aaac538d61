use Rattle.std.proofs.Common.{sym, ◌∙◌}
use Rattle.int_rows.specs.Elimination.{is_equality_with}
use Rattle.int_sets.specs.Views.{row_of}
use Rattle.int_sets.proofs.Walking.{position-found, position-more}
use Rattle.int_sets.proofs.gather.first_equality.Goals as goal

pub returns-then-is_equality_with : goal.returns-then-is_equality_with
returns-then-is_equality_with c =
    position-found c.args.rows.now.rows c.loop-i.i (row_of c.row.result) c.row.ensures.row (is_equality_with c.args.var) _ (sym c.is_equality_with.ensures ∙ c.if-is_equality_with.true) c.loop-i.invariant

pub loop-i-preserved : goal.loop-i-preserved
loop-i-preserved c =
    position-more c.args.rows.now.rows c.loop-i.i (row_of c.row.result) c.row.ensures.row (is_equality_with c.args.var) _ (sym c.is_equality_with.ensures ∙ c.if-is_equality_with.false) c.loop-i.invariant
