use Rattle.std.proofs.Common.{◌≡◌, map, drop, take}
use Rattle.int_rows.specs.Elimination.{substituted}
use Rattle.int_sets.specs.Views.{row_of}
use Rattle.int_sets.proofs.Progress.{Progress}
use Rattle.int_sets.proofs.gather.substitute_rows.Given as goal

abbrev pub invariant-loop-i : goal.invariant-loop-i
invariant-loop-i l = Progress (map (substituted l.var (row_of l.equality)) (drop l.start (take l.end l.rows.rows))) (map (substituted l.var (row_of l.equality)) (drop l.i (take l.end l.rows.rows))) l.initial.kept.many l.initial.kept.kept.rows l.kept.many l.kept.kept.rows × (l.kept.kept.vars ≡ l.initial.kept.kept.vars)
