use Rattle.std.proofs.Common.{◌≡◌, map, drop}
use Rattle.std.specs.Prelude.{filter}
use Rattle.int_rows.specs.Elimination.{canceled, is_below}
use Rattle.int_sets.specs.Views.{row_of}
use Rattle.int_sets.proofs.Progress.{Progress}
use Rattle.int_sets.proofs.gather.join_below.Given as goal

abbrev pub invariant-loop-i : goal.invariant-loop-i
invariant-loop-i l = Progress (map (canceled l.var (row_of l.first)) (filter (is_below l.var) l.rows.rows)) (map (canceled l.var (row_of l.first)) (filter (is_below l.var) (drop l.i l.rows.rows))) l.initial.kept.many l.initial.kept.kept.rows l.kept.many l.kept.kept.rows × (l.kept.kept.vars ≡ l.initial.kept.kept.vars)
