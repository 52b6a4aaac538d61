use Rattle.std.proofs.Common.{◌≡◌, drop, length}
use Rattle.std.specs.List.{list_all}
use Rattle.nest_limits.specs.Brackets.{nest_fits}
use Rattle.nest_limits.proofs.nest.nests_fit.Given as goal

abbrev pub invariant-loop-nest : goal.invariant-loop-nest
invariant-loop-nest l = list_all (nest_fits (length l.head.params) l.room) (drop l.nest-index l.nests) ≡ list_all (nest_fits (length l.head.params) l.room) l.nests
