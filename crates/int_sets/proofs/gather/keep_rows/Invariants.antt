use Rattle.std.proofs.Common.{◌≡◌, map, drop}
use Rattle.std.specs.Prelude.{filter}
use Rattle.int_rows.specs.Elimination.{stays, holds_not}
use Rattle.int_sets.proofs.Progress.{Progress}
use Rattle.int_sets.proofs.gather.keep_rows.Given as goal

abbrev pub invariant-loop-i : goal.invariant-loop-i
invariant-loop-i l = Progress (map stays (filter (holds_not l.var) l.rows.rows)) (map stays (filter (holds_not l.var) (drop l.i l.rows.rows))) l.initial.kept.many l.initial.kept.kept.rows l.kept.many l.kept.kept.rows × (l.kept.kept.vars ≡ l.initial.kept.kept.vars)
