use Rattle.std.proofs.Common.{◌≡◌, replicate}
use Rattle.nest_tree.specs.declared.form.Form.TheVariants.{Other}
use Rattle.pad_layouts.proofs.parts.other_levels.Given as goal

abbrev pub invariant-loop : goal.invariant-loop
invariant-loop l = l.levels ≡ replicate l.counter Other
