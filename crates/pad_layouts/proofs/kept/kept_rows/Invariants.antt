use Rattle.std.proofs.Common.{◌≡◌, ◌++◌, drop}
use Rattle.pad_layouts.specs.Moved as spec
use Rattle.pad_layouts.proofs.kept.kept_rows.Given as goal

abbrev pub invariant-loop-row : goal.invariant-loop-row
invariant-loop-row l = l.kept ++ spec.kept_rows l.params l.depth l.entry l.picks (drop l.row-index l.nest.rows) ≡ spec.kept_rows l.params l.depth l.entry l.picks l.nest.rows
