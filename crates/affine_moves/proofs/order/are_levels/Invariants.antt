use Rattle.std.proofs.Common.{◌≡◌, drop}
use Rattle.std.specs.List.{list_all}
use Rattle.affine_moves.specs.Change.{is_level}
use Rattle.affine_moves.proofs.order.are_levels.Given as goal

abbrev pub invariant-loop-level : goal.invariant-loop-level
invariant-loop-level l = list_all (is_level l.depth) (drop l.level-index l.order) ≡ list_all (is_level l.depth) l.order
