use Rattle.std.proofs.Common.{◌≡◌, ◌++◌, drop}
use Rattle.std.specs.Prelude.{filter, not}
use Rattle.int_rows.specs.Exclusion.{is_plain}
use Rattle.int_sets.proofs.decide.without_plain.Given as goal

abbrev pub invariant-loop-i : goal.invariant-loop-i
invariant-loop-i l = (l.kept.rows ++ filter (λ r. not (is_plain r)) (drop l.i l.rows.rows) ≡ filter (λ r. not (is_plain r)) l.rows.rows) × (l.kept.vars ≡ l.rows.vars)
