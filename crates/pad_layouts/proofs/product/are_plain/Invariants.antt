use Rattle.std.proofs.Common.{◌≡◌, drop}
use Rattle.std.specs.List.{list_all}
use Rattle.pad_layouts.specs.Products.{is_plain}
use Rattle.pad_layouts.proofs.product.are_plain.Given as goal

abbrev pub invariant-loop-form : goal.invariant-loop-form
invariant-loop-form l = list_all (is_plain l.first l.allowed) (drop l.form-index l.forms) ≡ list_all (is_plain l.first l.allowed) l.forms
