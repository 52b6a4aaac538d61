use Rattle.std.proofs.Common.{◌≡◌, length}
use Rattle.std.specs.Prelude.{IsTrue}
use Rattle.std.specs.List.{list_all}
use Rattle.nest_core.specs.Shapes.{vars_of}
use Rattle.datacopy.specs.Boxes.{is_side_over}
use Rattle.datacopy.proofs.boxes.sides_of.Given as goal

abbrev pub invariant-loop-subscript : goal.invariant-loop-subscript
invariant-loop-subscript l = record { count : length l.sides.items ≡ l.subscript-index; over : IsTrue (list_all (is_side_over (vars_of (length l.head.params) l.nest)) l.sides.items) }
