use Rattle.std.proofs.Common.{◌≡◌, length, drop}
use Rattle.std.specs.Prelude.{IsTrue}
use Rattle.std.specs.List.{list_all}
use Rattle.nest_core.specs.Shapes.{vars_of}
use Rattle.datacopy.specs.Boxes.{is_side_over, has_subscripts}
use Rattle.datacopy.proofs.boxes.box_of.Given as goal

abbrev pub invariant-loop-read : goal.invariant-loop-read
invariant-loop-read l = record { count : length l.sides.items ≡ length l.initial.sides.items; over : IsTrue (list_all (is_side_over (vars_of (length l.head.params) l.nest)) l.sides.items); reads : list_all (has_subscripts (length l.initial.sides.items)) (drop l.read-index l.others) ≡ list_all (has_subscripts (length l.initial.sides.items)) l.others }
