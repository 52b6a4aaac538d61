use Rattle.std.proofs.Common.{◌≡◌, map, drop}
use Rattle.std.specs.Prelude.{filter, flat_map}
use Rattle.int_rows.specs.Elimination.{canceled, is_above, is_below}
use Rattle.int_sets.proofs.Progress.{Progress}
use Rattle.int_sets.proofs.gather.join_pairs.Given as goal

abbrev pub invariant-loop-i : goal.invariant-loop-i
invariant-loop-i l = Progress (flat_map (λ r. map (canceled l.var r) (filter (is_below l.var) l.rows.rows)) (filter (is_above l.var) l.rows.rows)) (flat_map (λ r. map (canceled l.var r) (filter (is_below l.var) l.rows.rows)) (filter (is_above l.var) (drop l.i l.rows.rows))) l.initial.kept.many l.initial.kept.kept.rows l.kept.many l.kept.kept.rows × (l.kept.kept.vars ≡ l.initial.kept.kept.vars)
