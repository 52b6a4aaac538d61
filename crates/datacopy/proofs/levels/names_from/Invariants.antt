use Rattle.std.proofs.Common.{◌≡◌, length, false, nat_le, ◌&&◌}
use Rattle.datacopy.specs.Levels.{any_below, names_level}
use Rattle.datacopy.proofs.levels.names_from.Given as goal

abbrev pub invariant-loop-level : goal.invariant-loop-level
invariant-loop-level l = any_below (λ q. nat_le l.place q && names_level (length l.head.params) l.nest l.form q) l.level ≡ false
