use Rattle.std.proofs.Common.{◌≡◌, ◌≤◌, length}
use Rattle.datacopy.specs.Levels.{last_below, names_level}
use Rattle.datacopy.proofs.levels.last_named.Given as goal

abbrev pub invariant-loop-level : goal.invariant-loop-level
invariant-loop-level l = record { last : l.found ≡ last_below (names_level (length l.head.params) l.nest l.form) l.level; within : l.found ≤ l.level }
