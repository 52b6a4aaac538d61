use Rattle.std.proofs.Common.{◌≡◌, drop}
use Rattle.std.specs.List.{list_any}
use Rattle.pad_layouts.specs.Products.{writes}
use Rattle.pad_layouts.proofs.product.any_writes.Given as goal

abbrev pub invariant-loop-nest : goal.invariant-loop-nest
invariant-loop-nest l = list_any (writes l.array) (drop l.nest-index l.nests) ≡ list_any (writes l.array) l.nests
