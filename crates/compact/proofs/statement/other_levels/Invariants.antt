use Rattle.std.proofs.Common.{◌≡◌}
use Rattle.std.specs.Prelude.{replicate}
use Rattle.nest_tree.specs.declared.form.Form.TheVariants.{Other}
use Rattle.compact.proofs.statement.other_levels.Given as goal

abbrev pub invariant-loop : goal.invariant-loop
invariant-loop l = l.levels ≡ replicate l.counter Other
