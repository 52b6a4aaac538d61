use Rattle.std.proofs.Common.{◌∙◌, sym, ap, pos}
use Rattle.nest_systems.specs.Ranges.{of_none}
use Rattle.nest_systems.specs.Extents.{extent_form, with_multiple}
use Rattle.nest_systems.proofs.extent.extent_form.Goals as goal

pub returns-then-add_multiple-clause-value : goal.returns-then-add_multiple-clause-value
unfolding extent_form of_none
returns-then-add_multiple-clause-value c =
    sym c.if-add_multiple.ensures.value ∙ rw c.as_slice-params.ensures (ap (with_multiple c.args.head.now.params c.args.extent.now (pos 1)) (rw c.as_slice-params.ensures at c.in_ok-sum.ensures))

pub returns-else-add_multiple-clause-value : goal.returns-else-add_multiple-clause-value
unfolding extent_form of_none
returns-else-add_multiple-clause-value c =
    sym c.if-add_multiple.ensures.value ∙ rw c.as_slice-params.ensures (ap (with_multiple c.args.head.now.params c.args.extent.now (pos 1)) (rw c.as_slice-params.ensures at c.in_ok-sum.ensures))
