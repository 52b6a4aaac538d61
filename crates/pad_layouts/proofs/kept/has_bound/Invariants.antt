use Rattle.std.proofs.Common.{◌≡◌, drop}
use Rattle.std.specs.List.{list_any}
use Rattle.pad_layouts.specs.Moved.{is_bound}
use Rattle.pad_layouts.proofs.kept.has_bound.Given as goal

abbrev pub invariant-loop-row : goal.invariant-loop-row
invariant-loop-row l = list_any (is_bound l.form) (drop l.row-index l.rows) ≡ list_any (is_bound l.form) l.rows
