use Rattle.std.proofs.Common.{◌≡◌, map}
use Rattle.std.specs.List.{range_with_len}
use Rattle.nest_systems.specs.Spans.{unit_form}
use Rattle.depend_test.proofs.side.own_levels.Given as goal

abbrev pub invariant-loop-level : goal.invariant-loop-level
invariant-loop-level l = l.forms ≡ map (λ v. unit_form v l.vars) (range_with_len l.params l.level)
