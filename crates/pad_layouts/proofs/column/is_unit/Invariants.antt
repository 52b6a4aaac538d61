use Rattle.std.proofs.Common.{◌≡◌, drop}
use Rattle.pad_layouts.specs.Products.{unit_from}
use Rattle.pad_layouts.proofs.column.is_unit.Given as goal

abbrev pub invariant-loop-other : goal.invariant-loop-other
invariant-loop-other l = unit_from l.var l.other (drop l.other l.coefs) ≡ unit_from l.var 0 l.coefs
