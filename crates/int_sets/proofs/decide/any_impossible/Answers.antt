use Rattle.std.proofs.Common.{sym, ◌∙◌}
use Rattle.int_rows.specs.Exclusion.{is_impossible}
use Rattle.int_sets.specs.Views.{row_of}
use Rattle.int_sets.proofs.Walking.{any-found, any-more}
use Rattle.int_sets.proofs.decide.any_impossible.Goals as goal

pub returns-then-is_impossible : goal.returns-then-is_impossible
returns-then-is_impossible c = any-found c.args.rows.now.rows c.loop-i.i (row_of c.row.result) c.row.ensures.row is_impossible _ (sym c.is_impossible.ensures ∙ c.if-is_impossible.true) c.loop-i.invariant

pub loop-i-preserved : goal.loop-i-preserved
loop-i-preserved c = any-more c.args.rows.now.rows c.loop-i.i (row_of c.row.result) c.row.ensures.row is_impossible _ (sym c.is_impossible.ensures ∙ c.if-is_impossible.false) c.loop-i.invariant
