use Rattle.std.proofs.Common.{◌≡◌, length}
use Rattle.std.specs.List.{AllByRecursion}
use Rattle.nest_core.specs.Shapes.{IsShapedNest}
use Rattle.source_check.proofs.source.make_nests.Given as goal

abbrev pub invariant-loop-site : goal.invariant-loop-site
invariant-loop-site l = record {
  shaped : AllByRecursion (IsShapedNest l.program) l.nests.items;
  count : length l.nests.items ≡ l.site-index;
}
