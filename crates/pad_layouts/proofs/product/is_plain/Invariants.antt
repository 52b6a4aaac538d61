use Rattle.std.proofs.Common.{◌≡◌, drop}
use Rattle.pad_layouts.specs.Products.{zero_but}
use Rattle.pad_layouts.proofs.product.is_plain.Given as goal

abbrev pub invariant-loop-var : goal.invariant-loop-var
invariant-loop-var l = zero_but l.allowed l.var (drop l.var l.coefs) ≡ zero_but l.allowed l.first (drop l.first l.coefs)
