use Rattle.std.proofs.Common.{◌≡◌, ◌+◌, drop}
use Rattle.std.specs.List.{position_or_len}
use Rattle.int_rows.specs.Elimination.{is_equality_with}
use Rattle.int_sets.proofs.gather.first_equality.Given as goal

abbrev pub invariant-loop-i : goal.invariant-loop-i
invariant-loop-i l = l.i + position_or_len (is_equality_with l.var) (drop l.i l.rows.rows) ≡ position_or_len (is_equality_with l.var) l.rows.rows
