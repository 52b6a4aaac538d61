use Rattle.std.proofs.Common.{◌≡◌, ◌+◌, drop}
use Rattle.pad_layouts.specs.Products.{find_read}
use Rattle.pad_layouts.proofs.column.find_read.Given as goal

abbrev pub invariant-loop-i : goal.invariant-loop-i
invariant-loop-i l = find_read l.array l.var (l.first + l.i) (drop l.i l.terms) ≡ find_read l.array l.var l.first l.terms
