use Rattle.std.proofs.Common.{◌≡◌, drop}
use Rattle.unroll.specs.Moves.{any_deep}
use Rattle.unroll.proofs.shapes.any_deep.Given as goal

abbrev pub invariant-loop-i : goal.invariant-loop-i
invariant-loop-i l = any_deep (drop l.i l.nests) (drop l.i l.roles) ≡ any_deep l.nests l.roles
