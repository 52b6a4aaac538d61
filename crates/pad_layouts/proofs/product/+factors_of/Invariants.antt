use Rattle.std.proofs.Common.{◌≡◌, ◌≤◌}
use Rattle.nest_tree.specs.declared.body.Body.{size-Body}
use Rattle.pad_layouts.specs.Products.{transferred, factors_of}
use Rattle.pad_layouts.proofs.product.+factors_of.Given as goal

abbrev pub invariant-loop-rest : goal.invariant-loop-rest
invariant-loop-rest l = record {
  size : size-Body l.rest ≤ size-Body l.body;
  gathers : transferred l.transfer (factors_of l.entry.value l.entry.level l.entry.allowed l.rest) ≡ factors_of l.entry.value l.entry.level l.entry.allowed l.body;
}
