use Rattle.std.proofs.Common.{◌≡◌, drop}
use Rattle.std.specs.List.{list_any}
use Rattle.int_rows.specs.Exclusion.{is_impossible}
use Rattle.int_sets.proofs.decide.any_impossible.Given as goal

abbrev pub invariant-loop-i : goal.invariant-loop-i
invariant-loop-i l = list_any is_impossible (drop l.i l.rows.rows) ≡ list_any is_impossible l.rows.rows
