use Rattle.std.proofs.Common.{◌≡◌, ◌++◌, drop, length}
use Rattle.unroll.specs.Bounds.{forms_where, is_upper}
use Rattle.unroll.proofs.bounds.upper_forms.Given as goal

abbrev pub invariant-loop-row : goal.invariant-loop-row
invariant-loop-row l = l.forms ++ forms_where (is_upper (length l.head.params) l.level l.nest) (drop l.row-index l.nest.rows) ≡ forms_where (is_upper (length l.head.params) l.level l.nest) l.nest.rows
