use Rattle.std.proofs.Common.{length, take}
use Rattle.std.specs.List.{AllByRecursion}
use Rattle.depend_test.specs.Sides.{IsSide, AreSides}
use Rattle.depend_test.proofs.side.make_own_sides.Given as goal

abbrev pub invariant-loop-i : goal.invariant-loop-i
invariant-loop-i l = record { shapes : AllByRecursion (IsSide (length l.head.params)) l.sides; sides : AreSides l.head l.made (take l.i l.nests) (take l.i l.pieces) l.sides }
